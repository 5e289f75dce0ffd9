-- Digits as a loop writes them, from the back.
use Rattle.std.proofs.Common.{◌≡◌, sym, ap, ◌∙◌, List, [], ◌∷◌, ◌++◌, ℕ, zero, suc, ◌+◌, ◌*◌, ◌/◌, ◌%◌, ◌^◌, ◌<◌, length, set, drop, arith, add-one, ◌-◌, ◌≤◌, append_assoc}
use Rattle.std.proofs.Math.Nat.{pow-zero, pow-suc, div-div-eq-div-mul, mod-lt, one-le-pow}
use Rattle.std.proofs.Math.Arith.{mod-mul}
use Rattle.std.proofs.lemmas.List.{drop-set}
use Rattle.rules.specs.Numerals.{numeral}

-- the last digit apart
module _ (k n : ℕ) where
  abbrev p : ℕ
  p = 10 ^ k

  small : 0 < p
  small = one-le-pow k 10 (omega arith)

  low : n % (p * 10) % 10 ≡ n % 10
  low = rw (mod-mul n {c = 10} small (omega arith)) (omega arith)

  high : n % (p * 10) / 10 ≡ n / 10 % p
  high = rw (mod-mul n {c = 10} small (omega arith)) (omega arith)

pub last_digit : (k n : ℕ) → n < 10 ^ suc k → numeral 10 48 (suc k) n ≡ numeral 10 48 k (n / 10) ++ ((n % 10 + 48) ∷ [])
unfolding numeral
last_digit zero n h = rw pow-zero (ap (λ (d : ℕ). (d + 48) ∷ []) (omega (arith, pow-suc 10 0, pow-zero 10)))
last_digit (suc k) n h =
    let m = n % 10 ^ suc k in
    let e : m ≡ n % (10 ^ k * 10) = ap (λ (q : ℕ). n % q) (pow-suc 10 k) in
    let ih = last_digit k m (mod-lt n (one-le-pow (suc k) 10 (omega arith))) in
    let high_m : m / 10 ≡ n / 10 % 10 ^ k = ap (λ (x : ℕ). x / 10) e ∙ high k n in
    let low_m : m % 10 ≡ n % 10 = ap (λ (x : ℕ). x % 10) e ∙ low k n in
    let first : n / 10 ^ suc k ≡ n / 10 / 10 ^ k = ap (λ (q : ℕ). n / q) (omega (arith, pow-suc 10 k)) ∙ sym (div-div-eq-div-mul n 10 (10 ^ k)) in
    ap (λ (ds : List ℕ). (n / 10 ^ suc k + 48) ∷ ds) (rw (high_m, low_m) at ih) ∙ ap (λ (d : ℕ). (d + 48) ∷ (numeral 10 48 k (n / 10 % 10 ^ k) ++ ((n % 10 + 48) ∷ []))) first

-- one digit more is written
pub turn : (i n : ℕ) (ds : List ℕ) {v : ℕ} {all : List ℕ} → 0 < i → i ≤ length ds → n < 10 ^ i → v ≡ n % 10 + 48
    → numeral 10 48 i n ++ drop i ds ≡ all
    → (numeral 10 48 (i - 1) (n / 10) ++ drop (i - 1) (set ds (i - 1) v) ≡ all) × (n / 10 < 10 ^ (i - 1))
turn zero n ds some inside h w e = absurd (omega (arith, some))
turn (suc j) n ds {v} {all} some inside h w e =
    let f : suc j - 1 ≡ j = omega arith in
    let g : drop j (set ds j v) ≡ v ∷ drop (suc j) ds = rw (drop-set ds j v (omega arith), add-one) in
    let k : (numeral 10 48 j (n / 10) ++ ((n % 10 + 48) ∷ [])) ++ drop (suc j) ds ≡ all = rw (last_digit j n h) at e in (
      rw (f, g, w) (sym (append_assoc (numeral 10 48 j (n / 10)) ((n % 10 + 48) ∷ []) (drop (suc j) ds)) ∙ k),
      rw f (omega (arith, pow-suc 10 j)),
    )

-- none is left
pub all_written : (i n : ℕ) (ds : List ℕ) {all : List ℕ} → i ≡ 0 → numeral 10 48 i n ++ drop i ds ≡ all → ds ≡ all
unfolding numeral
all_written i n ds e h = rw e at h
