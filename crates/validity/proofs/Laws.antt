-- The refusals after those that reading finds, and what an order has that none refuses.
use Rattle.std.proofs.Common.{◌≡◌, refl, sym, ap, ◌∙◌, Bool, true, false, not, ◌&&◌, leb, List, [], ◌∷◌, ◌++◌, map, length, take, drop, get_or, ℕ, ◌+◌, ◌*◌, ◌/◌, ◌%◌, ◌≤◌, ◌<◌, arith, length-append, length-drop, eq-eqb, ne_eqb, Result, Ok, Err, OnOk}
use Rattle.std.proofs.lemmas.Bool.{lt-leb, not-false}
use Rattle.std.proofs.Math.ListN.{length-map}
use Rattle.std.proofs.Math.Seq.{slice, get_or-take, length-take-le, take_at}
use Rattle.rules.specs.declared.RawLeg.{RawLeg}
use Rattle.rules.specs.declared.Leg.{Leg}
use Rattle.rules.specs.declared.Terms.{Terms}
use Rattle.rules.specs.declared.Settings.{Settings}
use Rattle.rules.specs.declared.Market.{Market}
use Rattle.rules.specs.Limits.{within}
use Rattle.rules.specs.Numerals.{are_digits}
use Rattle.rules.specs.Lists.{All, all, any}
use Rattle.rules.specs.Symbol.{is_root, in_limits, parts_of, is_symbol}
use Rattle.rules.specs.Order.{leg_of, legs_of, no_leg}
use Rattle.rules.specs.Pairing.{digit}
use Rattle.rules.specs.Market.{settings_hold, market_holds}
use Rattle.rules.specs.Numbers.{first_of, is_bad_count, is_bad_price, refusals, refusal}
use Rattle.rules.specs.Valid.{InRange, IsValidLeg, AreValid}
use Rattle.rules.proofs.Tests.{and_both, and_no, or_neither, within_both}
use Rattle.rules.proofs.Symbols.{limits}
use Rattle.rules.proofs.Numbering.{none_apply}
use Rattle.limits.specs.declared.Held.{Held}
use Rattle.answers.specs.declared.Refusal.{Refusal}
use Rattle.answers.specs.Answers.{refusal_number, number_of}
use Rattle.sorting.specs.Keys.{sort_keys, with_places}
use Rattle.keys.specs.Tags.{key_of, tag_of, is_bought, place_of}
use Rattle.reading.specs.declared.Read.{Read}
use Rattle.reading.specs.Legs.{read_refusals, GoodRead}
use Rattle.series_refusals.specs.Twice.{SortedTwice}
use Rattle.series_refusals.proofs.Laws.{twice_front}
use Rattle.validity.specs.Orders.{later, Refuses}

-- ---- a leg in its limits

in_layout_lem : (r : RawLeg) → is_symbol r.symbol ≡ true → InRange (leg_of r).series
unfolding is_symbol leg_of
in_layout_lem r h =
    let s = r.symbol in
    let k = limits (parts_of s) (and_both (is_root (slice 0 6 s) && are_digits 10 48 (slice 6 12 s) && are_digits 10 48 (slice 13 21 s)) (in_limits (parts_of s)) h).1 in
    record { expiry = omega (arith, k.to, k.month, k.day); strike = k.strike }

same_size : (r : RawLeg) → (leg_of r).size ≡ r.size
unfolding leg_of
same_size r = refl

valid_leg : (r : RawLeg) → not (is_symbol r.symbol) ≡ false → is_bad_count r ≡ false → IsValidLeg (leg_of r)
valid_leg r h k =
    let w = within_both 1 10000 r.size (not-false _ k) in
    record { series = in_layout_lem r (not-false _ h); least = rw (same_size r) w.0; most = rw (same_size r) w.1 }

valid_legs : (rs : List RawLeg) → any (λ r. not (is_symbol r.symbol)) rs ≡ false → any is_bad_count rs ≡ false → All IsValidLeg (legs_of rs)
unfolding any legs_of
valid_legs [] h k = tt
valid_legs (r ∷ rs) h k =
    let a = or_neither _ _ h in
    let b = or_neither _ _ k in
    (valid_leg r a.0 b.0, valid_legs rs a.1 b.1)

all_ranges : (ls : List Leg) → All IsValidLeg ls → All (λ l. InRange l.series) ls
all_ranges [] h = tt
all_ranges (l ∷ ls) h = (h.0.series, all_ranges ls h.1)

-- of legs that reading does not refuse
read_ranges : (n : ℕ) (rs : List RawLeg) → first_of (read_refusals n rs) ≡ 0 → All (λ l. InRange l.series) (legs_of rs)
unfolding all
read_ranges n rs h = go (none_apply (read_refusals n rs) refl h)
  where
    go : All (λ e. e.0 ≡ false) (read_refusals n rs) → All (λ l. InRange l.series) (legs_of rs)
    go (length, (symbols, (counts, _))) = all_ranges (legs_of rs) (valid_legs rs symbols counts)

-- ---- an order of too many legs

pub above : (n : ℕ) → 16 < n → within 1 16 n ≡ false
above n h = rw (lt-leb n 16 h) (and_no (leb 1 n))

pub wrong_length : (st : Settings) (m : Market) (t : Terms) (n : ℕ) (rs : List RawLeg) → within 1 16 n ≡ false → refusal st m t n rs ≡ 3
unfolding refusal first_of
wrong_length st m t n rs h = rw h

-- ---- an order that is not refused

pub not_refused : (st : Settings) (m : Market) (t : Terms) (n : ℕ) (rs : List RawLeg) → refusal st m t n rs ≡ 0
    → (1 ≤ n) × (n ≤ 16) × AreValid (legs_of rs) × (settings_hold st ≡ true) × (market_holds m ≡ true)
unfolding refusal all
not_refused st m t n rs h = go (none_apply (refusals st m t n rs) refl h)
  where
    go : All (λ e. e.0 ≡ false) (refusals st m t n rs) → (1 ≤ n) × (n ≤ 16) × AreValid (legs_of rs) × (settings_hold st ≡ true) × (market_holds m ≡ true)
    go (length, (symbols, (counts, (twice, (roots, (price, (shares, (settings, (market, _))))))))) =
        let w = within_both 1 16 n (not-false _ length) in
        (w.0, w.1, record { each = valid_legs rs symbols counts; apart = twice; roots = roots }, not-false _ settings, not-false _ market)

-- ---- the number

-- the side that a place says
side_of_lem : (k : ℕ) (b : Bool) (place : ℕ) → place ≡ place_of (k * 2 + digit b) 0 → b ≡ is_bought (place / 16)
side_of_lem k true place e = sym (eq-eqb (place / 16 % 2) 1 (omega (arith, e)))
side_of_lem k false place e = sym (ne_eqb (place / 16 % 2) 1 (λ z. absurd (omega (arith, e, z))))

-- of a simple order's leg
first_side : (places : List ℕ) (ls : List Leg) → length ls ≡ 1 → take (length ls) places ≡ with_places 0 (map (tag_of false) ls) → (get_or ls 0 no_leg).bought ≡ is_bought (get_or places 0 0 / 16)
unfolding with_places
first_side places [] h e = absurd (omega arith)
first_side places (x ∷ []) h e =
    side_of_lem (key_of false x.series) x.bought (get_or places 0 0) (sym (get_or-take 1 places 0 0 (omega arith)) ∙ ap (λ (ps : List ℕ). get_or ps 0 0) e)
first_side places (x ∷ y ∷ ls) h e = absurd (omega arith)

-- a list of which no test applies, before another
none_before : (es fs : List (Bool × ℕ)) → All (λ e. e.0 ≡ false) es → first_of (es ++ fs) ≡ first_of fs
unfolding first_of
none_before [] fs h = refl
none_before (e ∷ es) fs h = rw h.0 (none_before es fs h.1)

-- what the tests say: `twice` and `price` are those of the places
module _ (st : Settings) (m : Market) (t : Terms) (read : Read) (places roots sorted : List ℕ) (twice price : Bool)
    (few : read.len ≤ 16)
    (whole : length places ≡ 16)
    (long : length sorted ≡ length (take read.len places))
    (series : SortedTwice read.other (take read.len places) (take read.len roots) sorted twice)
    (priced : (ls : List Leg) → length ls ≡ read.len → (read.len ≡ 1 → (get_or ls 0 no_leg).bought ≡ is_bought (get_or places 0 0 / 16)) → price ≡ is_bad_price t ls)
  where
    module _ (r : Result Held Refusal) (tests : number_of refusal_number r ≡ first_of (later twice read.other price t st m)) where
      -- they are the definition's, of an order that reading does not refuse
      numbered : (legs : List RawLeg) (many : ℕ) (sizes : List ℕ) → length legs ≡ 16 → first_of (read_refusals many (take many legs)) ≡ 0 → GoodRead legs many places sizes roots read
          → number_of refusal_number r ≡ refusal st m t many (take many legs)
      unfolding legs_of refusal all
      numbered legs many sizes full none g =
          let rs = take many legs in
          let ls = legs_of rs in
          let number : length ls ≡ read.len = length-map rs leg_of ∙ length-take-le many legs (omega (arith, full, few, g.len)) ∙ sym g.len in
          let s = twice_front read.len read.other places roots sorted twice (omega arith) series ls sizes g.placed number (read_ranges many rs none) g.other in
          let p = priced ls number (λ e. first_side places ls (number ∙ e) g.placed.each_tag) in
          tests ∙ rw (s, g.other, p) (sym (none_before (read_refusals many rs) _ (none_apply (read_refusals many rs) refl none)))

      -- roots do not differ where nothing is refused
      in_sequence : OnOk r (take read.len (sorted ++ drop read.len places) ≡ sort_keys (take read.len places))
      unfolding all
      in_sequence = go r tests
        where
          go : (r : Result Held Refusal) → number_of refusal_number r ≡ first_of (later twice read.other price t st m) → OnOk r (take read.len (sorted ++ drop read.len places) ≡ sort_keys (take read.len places))
          go (Ok h) e =
              take_at sorted (drop read.len places) read.len (long ∙ length-take-le read.len places (omega arith)) ∙ series.sorted (none_apply (later twice read.other price t st m) refl (sym e)).1.0
          go (Err x) e = tt

      pub refuses : Refuses st m t read places roots (sorted ++ drop read.len places) r
      refuses =
          record {
            number = numbered;
            sorted = in_sequence;
            full = omega (arith, length-append sorted (drop read.len places), length-drop read.len places, length-take-le read.len places);
          }
