-- The theorem of sessions, of its parts.
use mathlib.Core.Path.{ap, ap₂, ◌∙◌}
use mathlib.Core.List.{List}
use Prim.Native.Nat.{ℕ}
use lib.Dec.{leb}
use Rattle.rules.specs.declared.Login.{Login}
use Rattle.rules.specs.Session.{start_session}
use Rattle.session_theorems.specs.Calls.{SessionCall, session_after}
use Rattle.session_theorems.specs.Sessions.{Kept, SessionTheorem}
use Rattle.session_theorems.proofs.Steps.{others}
use Rattle.session_theorems.proofs.Goodness.{bad_kept, limit_kept}
use Rattle.session_theorems.proofs.Starts.{start, Opened, opened}
use Rattle.session_theorems.proofs.Alone.{isolation}
use Rattle.session_theorems.proofs.Tallies.{own_tallies}
use Rattle.session_theorems.proofs.Totals.{short_lists, in_all_lem}
use Rattle.session_theorems.proofs.Restriction.{same, beyond, next}
use Rattle.session_theorems.proofs.Running.{running_is}

kept : (limits s : List ℕ) → Opened limits s → (cs : List SessionCall) (i : ℕ) → Kept limits s cs i
kept limits s o cs i =
    let limit = limit_kept s cs i ∙ ap (λ (l : Login). l.limit) (o.login i) in
    let running = running_is i s cs 0 o.good (ap (λ (l : Login). l.running) (o.login i)) in
    record { limit = limit; tally = own_tallies i s cs (ap (λ (l : Login). l.tally) (o.login i)); running = running; restricted = ap₂ leb limit running }

pub session_theorem : SessionTheorem
session_theorem =
    record {
      isolation = isolation;
      short = λ limits lent w. let s = (start_session limits lent).session in short_lists s (λ i. ap (λ (l : Login). l.tally.seen) ((start limits lent w).fresh i));
      kept = λ limits lent h. kept limits (start_session limits lent).session (opened limits lent h);
      next = λ limits lent h cs. let s = (start_session limits lent).session in next (session_after s cs) (bad_kept s cs ∙ (opened limits lent h).good);
      tallied = λ limits lent h cs. in_all_lem (start_session limits lent).session cs (λ i. ap (λ (l : Login). l.tally.seen) ((opened limits lent h).login i));
      same = same;
      beyond = beyond;
      others = others;
    }
