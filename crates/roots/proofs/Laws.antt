-- What stands behind a root's first letter, byte by byte.
use Rattle.std.proofs.Common.{◌≡◌, refl, List, [], ◌∷◌, true, false, ◌||◌, ℕ, ◌+◌, ◌<◌, length, get_or, take, drop, eqb, ◌≤◌, ◌-◌, arith, length-drop}
use Rattle.std.proofs.Math.Seq.{take_all}
use Rattle.std.specs.List.{list_all}
use Rattle.std.proofs.lemmas.List.{at_drop_more, at_drop_all}
use Rattle.rules.specs.Symbol.{is_letter, is_digit, are_spaces, is_root_tail}

pub all_spaces : (bs : List ℕ) → are_spaces bs ≡ list_all (λ b. eqb b 32) bs
unfolding are_spaces
all_spaces [] = refl
all_spaces (b ∷ bs) = rw (all_spaces bs)

pub letter_passed : (bs : List ℕ) (i : ℕ) → i < length bs → is_letter (get_or bs i 0) || is_digit (get_or bs i 0) ≡ true → is_root_tail (drop (i + 1) bs) ≡ is_root_tail (drop i bs)
unfolding is_root_tail
letter_passed bs i h e = rw (at_drop_more is_root_tail bs i 0 h, e)

-- the rest is lent as a part of the bytes
pub letters_end : (bs : List ℕ) (i : ℕ) → i < length bs → is_letter (get_or bs i 0) || is_digit (get_or bs i 0) ≡ false → are_spaces (take (length bs - i) (drop i bs)) ≡ is_root_tail (drop i bs)
unfolding is_root_tail
letters_end bs i h e =
    let whole : take (length bs - i) (drop i bs) ≡ drop i bs = take_all (length bs - i) (drop i bs) (omega (arith, length-drop i bs)) in
    rw (whole, at_drop_more is_root_tail bs i 0 h, at_drop_more are_spaces bs i 0 h, e)

pub letters_all : (bs : List ℕ) (i : ℕ) → length bs ≤ i → true ≡ is_root_tail (drop i bs)
unfolding is_root_tail
letters_all bs i h = rw (at_drop_all is_root_tail bs i h)
