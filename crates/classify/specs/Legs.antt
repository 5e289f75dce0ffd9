-- What is said of the legs of a valid order.
use Rattle.std.specs.Prelude.{◌≡◌, List, Bool, length}
use Rattle.rules.specs.declared.Leg.{Leg}
use Rattle.rules.specs.Order.{units}
use Rattle.rules.specs.Pairing.{both_walks}
use Rattle.rules.specs.Class.{class_of, shape_of}
use Rattle.answers.specs.Answers.{class_number, shape_number}
use Rattle.classify.specs.declared.Classified.{Classified}

-- the definitions on legs in the first walk's sequence, and on their unit legs
pub record IsClassified (european : Bool) (ls us : List Leg) (r : Classified) : Type 0 where
  pub counts : us ≡ units ls
  pub class : class_number r.class ≡ class_of us (both_walks european ls)
  pub shape : shape_number r.shape ≡ shape_of us
  pub pairings : r.pairings ≡ length (both_walks european ls).pairs
