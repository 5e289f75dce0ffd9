-- A signed figure that is the difference of two numbers.
use mathlib.Core.Path.{◌≡◌, refl, sym, ap, ◌∙◌}
use mathlib.Core.Bool.{Bool, true, false, cond, not}
use Prim.Native.Nat.{ℕ, zero, suc, ◌+◌, ◌-◌, ◌<◌, ◌≤◌}
use native.Mathlib.Omega.{arith}
use lib.IntN.{ℤ, pos, negsuc, neg_ℤ, nat_abs, sub_ℕ, ◌+ℤ◌, ◌*ℤ◌, +ℤ_idr, *ℤ_comm, *ℤ-one, *ℤ-negsuc}
use lib.Dec.{ltb}
use lib.Signed.{lt_z}
use borrow.Author.Tests.{ltb-true, ltb-false, lt-ltb, le-ltb}
use Rattle.rules.specs.OpenContracts.{sign, adjusted, shows_other}

sub_le : (a b : ℕ) → b ≤ a → sub_ℕ a b ≡ pos (a - b)
sub_le a b h = rw (le-ltb a b h)

sub_lt : (a b : ℕ) → a < b → sub_ℕ a b ≡ negsuc (b - suc a)
sub_lt a b h = rw (lt-ltb a b h)

split : {A : Type 0} (a b : ℕ) → (b ≤ a → A) → (a < b → A) → A
split {A} a b f g = go (ltb a b) refl
  where
    go : (t : Bool) → ltb a b ≡ t → A
    go true e = g (ltb-true a b e)
    go false e = f (ltb-false a b e)

-- two numbers as far apart
pub sub_same : (a b c d : ℕ) → a + d ≡ c + b → sub_ℕ a b ≡ sub_ℕ c d
sub_same a b c d e = split a b
    (λ h. sub_le a b h ∙ ap pos (omega arith) ∙ sym (sub_le c d (omega arith)))
    (λ h. sub_lt a b h ∙ ap negsuc (omega arith) ∙ sym (sub_lt c d (omega arith)))

sub_neg : (a b : ℕ) → neg_ℤ (sub_ℕ a b) ≡ sub_ℕ b a
sub_neg a b = split a b
    (λ h. ap neg_ℤ (sub_le a b h) ∙ go (a - b) refl h)
    (λ h. ap neg_ℤ (sub_lt a b h) ∙ ap pos (omega arith) ∙ sym (sub_le b a (omega arith)))
  where
    go : (n : ℕ) → a - b ≡ n → b ≤ a → neg_ℤ (pos n) ≡ sub_ℕ b a
    go zero e h = sym (sub_le b a (omega arith) ∙ ap pos (omega arith))
    go (suc n) e h = sym (sub_lt b a (omega arith) ∙ ap negsuc (omega arith))

add_sub : (b s n : ℕ) → sub_ℕ b s +ℤ pos n ≡ sub_ℕ (b + n) s
add_sub b s n = split b s
    (λ h. ap (λ (z : ℤ). z +ℤ pos n) (sub_le b s h) ∙ ap pos (omega arith) ∙ sym (sub_le (b + n) s (omega arith)))
    (λ h. ap (λ (z : ℤ). z +ℤ pos n) (sub_lt b s h) ∙ sub_same n (suc (s - suc b)) (b + n) s (omega arith))

take_sub : (b s n : ℕ) → sub_ℕ b s +ℤ neg_ℤ (pos n) ≡ sub_ℕ b (s + n)
take_sub b s zero = +ℤ_idr (sub_ℕ b s) ∙ sub_same b s b (s + 0) (omega arith)
take_sub b s (suc n) = split b s
    (λ h. ap (λ (z : ℤ). z +ℤ negsuc n) (sub_le b s h) ∙ sub_same (b - s) (suc n) b (s + suc n) (omega arith))
    (λ h. ap (λ (z : ℤ). z +ℤ negsuc n) (sub_lt b s h) ∙ ap negsuc (omega arith) ∙ sym (sub_lt b (s + suc n) (omega arith)))

-- a number with a side's sign
pub sign_turns : (bought : Bool) (z : ℤ) → sign bought *ℤ z ≡ cond bought z (neg_ℤ z)
unfolding lib.IntN.one
sign_turns true z = *ℤ_comm (pos 1) z ∙ *ℤ-one z
sign_turns false z = *ℤ_comm (negsuc 0) z ∙ *ℤ-negsuc z 0 ∙ ap neg_ℤ (*ℤ-one z)

below : (b s : ℕ) → lt_z (sub_ℕ b s) (pos 0) ≡ ltb b s
below b s = split b s
    (λ h. ap (λ (z : ℤ). lt_z z (pos 0)) (sub_le b s h) ∙ le-ltb (b - s) 0 (omega arith) ∙ sym (le-ltb b s h))
    (λ h. ap (λ (z : ℤ). lt_z z (pos 0)) (sub_lt b s h) ∙ sym (lt-ltb b s h))

-- what of one number is more than of the other: `count` of each side, true the first number
module _ (count : Bool → ℕ) where
  abbrev pub net : ℤ
  net = sub_ℕ (count true) (count false)

  -- adjusted by what one side has more, or the other less
  pub adjusted_net : (after : Bool → ℕ) (side : Bool) (n : ℕ) → count side + n + after (not side) ≡ after side + count (not side) → adjusted net (sign side) n ≡ sub_ℕ (after true) (after false)
  adjusted_net after true n h = ap (λ (z : ℤ). net +ℤ z) (sign_turns true (pos n)) ∙ add_sub (count true) (count false) n ∙ sub_same (count true + n) (count false) (after true) (after false) h
  adjusted_net after false n h = ap (λ (z : ℤ). net +ℤ z) (sign_turns false (pos n)) ∙ take_sub (count true) (count false) n ∙ sub_same (count true) (count false + n) (after true) (after false) (omega arith)

  -- which side is more
  pub shows_net : (side : Bool) → shows_other net (sign side) ≡ ltb (count side) (count (not side))
  shows_net true = ap (λ (z : ℤ). lt_z z (pos 0)) (sign_turns true net) ∙ below (count true) (count false)
  shows_net false = ap (λ (z : ℤ). lt_z z (pos 0)) (sign_turns false net ∙ sub_neg (count true) (count false)) ∙ below (count false) (count true)

  pub net_small : (most : ℕ) → ((side : Bool) → count side ≤ most) → nat_abs net ≤ most
  net_small most h = split (count true) (count false)
      (λ l. rw (sub_le (count true) (count false) l) (omega (arith, h true)))
      (λ l. rw (sub_lt (count true) (count false) l) (omega (arith, h false)))
