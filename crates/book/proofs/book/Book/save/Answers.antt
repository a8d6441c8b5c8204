use Rattle.std.proofs.Common.{◌≡◌, ℕ, ◌+◌, ◌-◌, ◌*◌, ◌<◌, ◌≤◌, ◌∙◌, false, ltb, map, length, get_or, ap, subst, arith}
use borrow.Rule.Slice.PartMut.{put_mid}
use Rattle.std.proofs.lemmas.Bool.Decides.{nat_tests}
use Rattle.book.specs.Book.{View, IsLawful}
use Rattle.book.specs.Images.{job_record, blank_record}
use Rattle.book.specs.Loads.{IsSizedAt}
use Rattle.book.proofs.Images.ImageWritten.{begun_place, begun_all, sized_more, written_back}
use Rattle.book.proofs.book.Book.save.Goals as goal

pub loop-index-preserved : goal.loop-index-preserved
loop-index-preserved c =
    let b = c.args.self.now in
    let i = c.loop-index.index in
    let at = (1 + i) * 24 in
    let r = c.copy_from_slice-in-loop-index.new.self in
    let few : length b.jobs ≤ 64 = omega (arith, c.jobs-jobs.ensures.few, ap (λ (v : View). length v.jobs) c.self.view_is) in
    let jobs : c.jobs-jobs.result.now ≡ b.jobs = c.jobs-jobs.ensures.jobs ∙ ap (λ (v : View). v.jobs) c.self.view_is in
    record {
      written =
          ap (λ xs. put_mid at (at + 24 - at) xs r) c.loop-index.invariant.written
          ∙ begun_place i at (at + 24 - at) b c.args.list.now r few (omega arith) (omega arith) (omega arith)
          (c.copy_from_slice-in-loop-index.ensures.after ∙ c.record_at.ensures.bytes ∙ ap (λ js. get_or (map job_record js) i blank_record) jobs);
      sized = sized_more c.jobs-jobs.result.now i c.loop-index.invariant.sized c.record_at.ensures.sized;
    }

pub returns-clause-list : goal.returns-clause-list
returns-clause-list c =
    let b = c.args.self.now in
    let few : length b.jobs ≤ 64 = omega (arith, c.jobs-jobs.ensures.few, ap (λ (v : View). length v.jobs) c.self.view_is) in
    let enough : ltb (length c.args.list.now) 1560 ≡ false = grind (arith, nat_tests) in
    rw enough (c.loop-index.invariant.written ∙ begun_all (1 + c.loop-index.index) b c.args.list.now few (omega arith))

pub returns-clause-loads_back : goal.returns-clause-loads_back
returns-clause-loads_back c =
    let b = c.args.self.now in
    let few : length b.jobs ≤ 64 = omega (arith, c.jobs-jobs.ensures.few, ap (λ (v : View). length v.jobs) c.self.view_is) in
    let jobs : c.jobs-jobs.result.now ≡ b.jobs = c.jobs-jobs.ensures.jobs ∙ ap (λ (v : View). v.jobs) c.self.view_is in
    let sized : (k : ℕ) → k < c.loop-index.index → IsSizedAt k b.jobs = subst (λ js. (k : ℕ) → k < c.loop-index.index → IsSizedAt k js) jobs c.loop-index.invariant.sized in
    written_back b c.args.list.now c.loop-index.list c.loop-index.index (subst IsLawful c.self.view_is c.self.invariant) (omega arith) sized
    (c.loop-index.invariant.written ∙ begun_all (1 + c.loop-index.index) b c.args.list.now few (omega arith))
