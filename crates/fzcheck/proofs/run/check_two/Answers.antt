use Rattle.fzcheck.proofs.Outcomes.{told}
use Rattle.fzcheck.proofs.run.check_two.Goals as goal

pub returns-clause-answers : goal.returns-clause-answers
returns-clause-answers g c = (told _ _ _ _ _ _ _ _ _ _ _ c.answer-status.ensures.answers c.answer-status.ensures.cause c.tell.ensures).answers

pub returns-clause-printed : goal.returns-clause-printed
returns-clause-printed g c = (told _ _ _ _ _ _ _ _ _ _ _ c.answer-status.ensures.answers c.answer-status.ensures.cause c.tell.ensures).printed

pub returns-clause-flushed : goal.returns-clause-flushed
returns-clause-flushed g c = (told _ _ _ _ _ _ _ _ _ _ _ c.answer-status.ensures.answers c.answer-status.ensures.cause c.tell.ensures).whole

pub returns-clause-cause : goal.returns-clause-cause
returns-clause-cause g c = (told _ _ _ _ _ _ _ _ _ _ _ c.answer-status.ensures.answers c.answer-status.ensures.cause c.tell.ensures).cause
