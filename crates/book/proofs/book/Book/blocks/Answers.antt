use Rattle.std.proofs.Common.{◌≡◌, ◌∙◌, map, ap}
use Rattle.book.specs.Demands.{demands}
use Rattle.book.specs.Book.{View}
use Rattle.book.specs.Blocks.{block_in_time, book_blocks}
use Rattle.book.proofs.CriticalBlocks.{blocks_are, blocked_open, written_answer, written_list}
use Rattle.book.proofs.book.Book.blocks.Goals as goal

pub returns : goal.returns
returns c =
    let b : View = record { now = c.self.inside.tick; top = c.self.inside.top; jobs = c.self.inside.jobs } in
    let ds = c.demands_of-demands.result in
    let items = c.list.result.now in
    let open_at = c.self.invariant.well_formed.jobs_open in
    let of_jobs : ds ≡ demands b.now b.jobs = c.demands_of-demands.ensures ∙ ap (demands b.now) c.jobs.ensures.jobs in
    let are : map (block_in_time b.now) items ≡ book_blocks b = blocks_are b ds items open_at of_jobs (c.list.ensures.blocks ∙ c.critical_blocks-blocks.ensures.blocks) in
    rw (← c.self.view_is, c.write-count.ensures.count, c.write-count.ensures.list) (record {
      answer = written_answer b c.args.list.now c.if-list-lt-PLACES.false items are;
      list = written_list b c.args.list.now c.if-list-lt-PLACES.false items are;
      critical = blocked_open b ds open_at of_jobs c.critical_blocks-blocks.ensures.critical;
    })
