-- A refusal is the definition's; the arrays of an order that has none are its legs, sorted.
use Rattle.std.proofs.Common.{◌≡◌, sym, ap₂, ◌∙◌, length, arith, rules}
use Rattle.rules.specs.declared.Settings.{Settings}
use Rattle.rules.specs.declared.Market.{Market}
use Rattle.rules.specs.Market.{settings_of, market_of}
use Rattle.rules.specs.Numbers.{check_order}
use Rattle.arranging.proofs.Arranging.{arranged_front, sixteen_places}
use Rattle.order_check.proofs.Laws.{refused_read, refused_later, valid_order, order_tags, order_judged}
use Rattle.order_check.proofs.check_order.Goals as goal

pub returns-in_err-read : goal.returns-in_err-read
returns-in_err-read c =
    let o = c.args.o in
    let st = c.settings_of-st.result in
    let m = c.market_of-m.result in
    let handed : check_order st m o ≡ check_order (settings_of c.args.settings.now) (market_of c.args.market.now) o = ap₂ (λ (st : Settings) (m : Market). check_order st m o) c.settings_of-st.ensures c.market_of-m.ensures in
    rw (← handed, refused_read st m o _ c.in_err-read.ensures.number) (search rules)

pub returns-in_err-held : goal.returns-in_err-held
returns-in_err-held c =
    let o = c.args.o in
    let st = c.settings_of-st.result in
    let m = c.market_of-m.result in
    let full : length o.legs ≡ 16 = omega arith in
    let read = c.in_ok-read.ensures in
    let handed : check_order st m o ≡ check_order (settings_of c.args.settings.now) (market_of c.args.market.now) o = ap₂ (λ (st : Settings) (m : Market). check_order st m o) c.settings_of-st.ensures c.market_of-m.ensures in
    rw (← handed, refused_later st m o _ (c.in_err-held.ensures.refuses.number o.legs o.len _ full (sym read.number) read.good)) (search rules)

-- The arrays have a place for every leg.
pub arrange-requires-clause-within : goal.arrange-requires-clause-within
arrange-requires-clause-within c = sixteen_places _ _ (omega arith)

pub judge-requires : goal.judge-requires
judge-requires c =
    let o = c.args.o in
    let st = c.settings_of-st.result in
    let m = c.market_of-m.result in
    let full : length o.legs ≡ 16 = omega arith in
    let read = c.in_ok-read.ensures in
    let refuses = c.in_ok-held.ensures.refuses in
    let none = sym (refuses.number o.legs o.len _ full (sym read.number) read.good) in
    let v = valid_order st m o _ _ _ _ _ read.good none refuses.sorted in
    let a = arranged_front c.in_ok-read.read.len c.refusal.new.places _ c.arrange.new.places c.arrange.new.left _ (omega arith) (omega arith) c.arrange.auto.places c.arrange.auto.left c.arrange.ensures in
    let t = order_tags st m o _ _ _ _ _ read.good none refuses.sorted full _ _ a.0 (a.1 ∙ refuses.full) a.2 in
    (t, rw read.good.len v.0)

pub returns : goal.returns
returns c =
    let o = c.args.o in
    let st = c.settings_of-st.result in
    let m = c.market_of-m.result in
    let full : length o.legs ≡ 16 = omega arith in
    let read = c.in_ok-read.ensures in
    let refuses = c.in_ok-held.ensures.refuses in
    let none = sym (refuses.number o.legs o.len _ full (sym read.number) read.good) in
    let handed : check_order st m o ≡ check_order (settings_of c.args.settings.now) (market_of c.args.market.now) o = ap₂ (λ (st : Settings) (m : Market). check_order st m o) c.settings_of-st.ensures c.market_of-m.ensures in
    let a = arranged_front c.in_ok-read.read.len c.refusal.new.places _ c.arrange.new.places c.arrange.new.left _ (omega arith) (omega arith) c.arrange.auto.places c.arrange.auto.left c.arrange.ensures in
    order_judged st m o _ _ _ _ _ read.good none refuses.sorted full _ _ a.0 _ (rw (c.in_ok-held.ensures.kept.0, c.in_ok-held.ensures.kept.1) at c.judge.ensures) ∙ handed
