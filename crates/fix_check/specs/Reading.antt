-- The places that the loop over a message's fields finds, behind a head that is right.
use Rattle.std.specs.Prelude.{◌≡◌, List, ℕ, Some}
use Rattle.frame.specs.declared.Head.{Head}
use Rattle.frame.specs.Frame.{head_of}
use Rattle.scan.specs.declared.Places.{Places}
use Rattle.scan.specs.Scanning.{scanned}

pub record AreRead (m : List ℕ) (p : Places) : Type 0 where
  pub head : Head
  pub found : head_of m ≡ Some head
  pub places : p ≡ (scanned m head.body).places
