-- The sequence of the needed tags, one tag after the other.
use Rattle.std.specs.Prelude.{Bool, false, cond, not, ◌&&◌, ◌||◌, ℕ, ◌-◌, ◌*◌, ◌%◌, eqb}
use Rattle.rules.specs.Fix.{is_group_tag}
use Rattle.groups.specs.declared.Sequence.{Sequence}

-- before the body
abbrev pub none_seen : Sequence
none_seen = record { kind = false; price = false; legs = false; left = 0; wrong = false }

-- the tag that is due where so many fields of the groups are left
unfoldable pub due_tag : ℕ → ℕ
due_tag left = cond (eqb (left % 3) 0) 600 (cond (eqb (left % 3) 2) 623 624)

-- a tag outside the groups; `legs` is the number of groups that a 555 says
unfoldable pub outside : Sequence → ℕ → ℕ → Sequence
outside q tag legs =
    record {
      kind = q.kind || eqb tag 40;
      price = q.price || eqb tag 44;
      legs = q.legs || eqb tag 555;
      left = cond (eqb tag 555) (3 * legs) 0;
      wrong = q.wrong || ((q.kind && eqb tag 40) || ((q.price && eqb tag 44) || ((q.legs && eqb tag 555) || is_group_tag tag)));
    }

-- a tag among the groups
unfoldable pub among : Sequence → ℕ → Sequence
among q tag = record { kind = q.kind; price = q.price; legs = q.legs; left = q.left - 1; wrong = q.wrong || not (eqb tag (due_tag q.left)) }

unfoldable pub sequence_step : Sequence → ℕ → ℕ → Sequence
sequence_step q tag legs = cond (eqb q.left 0) (outside q tag legs) (among q tag)

-- every needed tag came once, and in its place
unfoldable pub is_complete : Sequence → Bool
is_complete q = (q.kind && q.price) && (q.legs && (eqb q.left 0 && not q.wrong))
