use Rattle.std.proofs.Common.{◌≡◌, ◌+◌, ◌<◌, ◌∙◌, false, Ok, ltb, ◌==◌, get_or, length, take, drop, sym, ap, arith}
use Rattle.std.proofs.Math.Seq.{take-append_seam}
use Rattle.std.proofs.lemmas.Bool.Decides.{nat_tests}
use Rattle.std.specs.List.{filter, sum_by}
use Rattle.schedule.specs.InForce.{horizon}
use Rattle.schedule.proofs.Theory.{theory}
use Rattle.book.specs.declared.tick.Entry.{Entry}
use Rattle.book.specs.Book.{View}
use Rattle.layout.specs.declared.job.TheConstants.{LAST_TICK}
use Rattle.book.specs.Settings.{settings_of}
use Rattle.book.specs.Lists.{list_with}
use Rattle.book.specs.Ticks.{has_work}
use Rattle.book.proofs.Serving.{jobs_then, entries_then}
use Rattle.book.proofs.Ticking.{gives_setting, lawful_after}
use Rattle.book.proofs.book.Book.tick.Goals as goal

pub invariant_of-self : goal.invariant_of-self
invariant_of-self c =
    let b : View = record { now = c.self.inside.tick; top = c.self.inside.top; jobs = c.self.inside.jobs } in
    let lt : 0 < horizon = omega (arith, theory.ticks) in
    let setting : get_or c.setting_bytes.result 0 0 ≡ settings_of b 0 = c.setting_bytes.ensures.settings 0 lt ∙ ap (λ v. settings_of v 0) (sym c.self.view_is) in
    let jobs : c.close_done.new.self ≡ filter has_work (jobs_then b.now (settings_of b 0) b.jobs) =
    c.close_done.ensures ∙ ap (filter has_work) (c.serve-count.ensures.jobs ∙ ap (λ u. jobs_then b.now u b.jobs) setting) in
    rw jobs (lawful_after b c.self.invariant c.if-self-eq-LAST_TICK.false)

pub returns : goal.returns
returns c =
    let b : View = record { now = c.self.inside.tick; top = c.self.inside.top; jobs = c.self.inside.jobs } in
    let lt : 0 < horizon = omega (arith, theory.ticks) in
    let setting : get_or c.setting_bytes.result 0 0 ≡ settings_of b 0 = c.setting_bytes.ensures.settings 0 lt ∙ ap (λ v. settings_of v 0) (sym c.self.view_is) in
    let jobs : c.close_done.new.self ≡ filter has_work (jobs_then b.now (settings_of b 0) b.jobs) =
    c.close_done.ensures ∙ ap (filter has_work) (c.serve-count.ensures.jobs ∙ ap (λ u. jobs_then b.now u b.jobs) setting) in
    let es = entries_then b.now (settings_of b 0) b.jobs in
    let list : c.serve-count.new.list ≡ list_with es c.args.list.now = c.serve-count.ensures.list ∙ ap (λ u. list_with (entries_then b.now u b.jobs) c.args.list.now) setting in
    let count : c.serve-count.result ≡ length es = c.serve-count.ensures.count ∙ ap (λ u. length (entries_then b.now u b.jobs)) setting in
    let enough : ltb (length c.args.list.now) 64 ≡ false = grind (arith, nat_tests) in
    let more : (b.now == LAST_TICK) ≡ false = grind (arith, nat_tests) in
    let written : take c.serve-count.result c.serve-count.new.list ≡ es =
    (λ i. take (count i) (list i)) ∙ take-append_seam es (drop (length es) c.args.list.now) in
    let gives : sum_by (λ e. e.units) (take c.serve-count.result c.serve-count.new.list) ≡ get_or c.setting_bytes.result 0 0 =
    ap (sum_by (λ (e : Entry). e.units)) written ∙ gives_setting b c.self.invariant ∙ sym setting in
    rw (← c.self.view_is, enough, more) (record {
      answer = λ i. Ok (record { setting = setting i; count = count i });
      after = λ i. record { now = b.now + 1; top = b.top; jobs = jobs i };
      list = list;
      gives = gives;
    })
