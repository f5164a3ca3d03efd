use Rattle.std.proofs.Common.{◌≡◌, ◌+◌, ◌*◌, refl, ap, rules}
use Rattle.fz_agenda.specs.Bits.{members_of}
use Rattle.fz_agenda.specs.Queues.{class_of}
use Rattle.fz_prop.specs.Stores.{IsListed}
use Rattle.fz_agenda.proofs.Waking.{waking_start, waking_wake, waking_more, all_awake}
use Rattle.fz_agenda.proofs.Woken.{woken_twice}
use Rattle.fz_agenda.proofs.wakes.wake_members.Goals as goal

pub places-init : goal.places-init
places-init c = waking_start c.chunk-chunk.result.word c.chunk-chunk.result.bits c.idle_in.result c.common-left.result c.args.costs.now c.args.agenda.now c.idle_in.ensures c.common-left.ensures

pub places-preserved : goal.places-preserved
places-preserved c =
    let word = c.chunk-chunk.result.word in
    let bit = c.lowest_bit-bit.result in
    let class = class_of c.cost_at.result in
    waking_more word c.chunk-chunk.result.bits c.places.left c.without_bit-left.result bit c.args.costs.now c.args.agenda.now c.places.agenda c.wake_idle.new.self class (word * 64 + bit) c.places.invariant
    (waking_wake c.wake_idle.result word c.chunk-chunk.result.bits c.places.left bit c.args.costs.now c.args.agenda.now c.places.agenda c.wake_idle.new.self class (word * 64 + bit) c.places.invariant c.lowest_bit-bit.ensures.place
    c.lowest_bit-bit.ensures.bit refl c.wake_idle.ensures.idle c.wake_idle.ensures.other c.wake_idle.ensures.err (ap class_of c.cost_at.ensures))
    c.lowest_bit-bit.ensures.place refl c.in_ok-wake_idle.ensures.idle c.wake_idle.ensures.other c.without_bit-left.ensures.ones

pub returns-clause-awake : goal.returns-clause-awake
returns-clause-awake c =
    let none : c.places.left ≡ 0 = search rules in
    rw c.chunk-chunk.ensures.members (all_awake c.chunk-chunk.result.word c.chunk-chunk.result.bits c.places.left c.args.costs.now c.args.agenda.now c.places.agenda c.places.invariant none)

pub returns-clause-woken : goal.returns-clause-woken
returns-clause-woken c = rw c.chunk-chunk.ensures.members c.places.invariant.woken

pub returns-in_err-wake_idle-clause-woken : goal.returns-in_err-wake_idle-clause-woken
returns-in_err-wake_idle-clause-woken c =
    let word = c.chunk-chunk.result.word in
    let bits = c.chunk-chunk.result.bits in
    let bit = c.lowest_bit-bit.result in
    let class = class_of c.cost_at.result in
    rw c.chunk-chunk.ensures.members (woken_twice (IsListed (members_of word bits)) c.args.costs.now c.args.agenda.now c.places.agenda c.wake_idle.new.self c.places.invariant.woken
    (waking_wake c.wake_idle.result word bits c.places.left bit c.args.costs.now c.args.agenda.now c.places.agenda c.wake_idle.new.self class (word * 64 + bit) c.places.invariant c.lowest_bit-bit.ensures.place
    c.lowest_bit-bit.ensures.bit refl c.wake_idle.ensures.idle c.wake_idle.ensures.other c.wake_idle.ensures.err (ap class_of c.cost_at.ensures)))

pub wake_idle-requires : goal.wake_idle-requires
wake_idle-requires c = c.places.invariant.idle c.lowest_bit-bit.result c.lowest_bit-bit.ensures.place c.lowest_bit-bit.ensures.bit
