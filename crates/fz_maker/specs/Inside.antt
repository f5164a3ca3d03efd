-- The maker that the fields are.
use Rattle.fz_maker.specs.Making.{Making}
use Rattle.fz_maker.specs.declared.maker.Maker.TheInside.{Inside}

abbrev pub making_of : Inside → Making
making_of k = record { model = k.model.now; head = k.head; stage = k.stage; boxes = k.walk }
