-- What the next round answers, and what it leaves.
use Rattle.std.proofs.Common.{◌≡◌, ℕ, ◌<◌, ◌≤◌, Bool, not, ◌&&◌, List, [], ◌∷◌, length, map, Some, sym, ap, ap₂, ◌∙◌, subst, arith}
use Rattle.std.proofs.ByRecursion.{all_kept_by}
use Rattle.schedule.specs.Certificate.{listed}
use Rattle.schedule.specs.Demands.{Demand}
use Rattle.schedule.specs.Work.{inside}
use Rattle.schedule.specs.InForce.{horizon}
use Rattle.schedule.specs.Compressed.{compressed, seen, NonEmpty, windows}
use Rattle.schedule.specs.BestPair.{Pair, best_pair, pair_work, extent}
use Rattle.schedule.specs.Rounds.{unplaced, taken, still_free, between, Rounds, pairs}
use Rattle.schedule.specs.Blocks.{block, blocks_of, first_tick, past_tick}
use Rattle.schedule.proofs.CompressedLaws.{non_empty_after, open_unplaced}
use Rattle.schedule.proofs.RoundsEnd.{pairs_rounds, round_within}
use Rattle.schedule.proofs.BlockFacts.{rounds_unique}
use Rattle.schedule.proofs.Theory.{theory}
use Rattle.planner.specs.declared.blocks.RelativeBlock.{RelativeBlock}
use Rattle.planner.specs.Pair.{best_pair_of}
use Rattle.planner.specs.Ticks.{is_free_in, is_marked_in}
use Rattle.planner.specs.Blocks.{block_of}
use Rattle.planner.specs.Rounds.{blocks_to_come, AreLeft}
use Rattle.planner.proofs.Compressing.{windows_by, unplaced_by, taken_by, free_by}

-- the next round takes the pair p: it ends within the horizon, and the round answers the next block and leaves what is said
pub record Next (free : ℕ → Bool) (ds : List Demand) (p : Pair) : Type 0 where
  pub within : p.high ≤ compressed free horizon
  pub block_is : blocks_to_come free ds ≡ block_of (block horizon free ds p) ∷ blocks_to_come (still_free free p) (unplaced (compressed free) p ds)
  pub left : AreLeft (still_free free p) (unplaced (compressed free) p ds)

left_after : (free : ℕ → Bool) (ds : List Demand) (p : Pair) → p.low < p.high → AreLeft free ds → AreLeft (still_free free p) (unplaced (compressed free) p ds)
left_after free ds p proper left =
    let kept : Demand → Bool = λ d. not (inside p.low p.high (seen (compressed free) d)) in
    record {
      windowed = all_kept_by kept (λ d. (d.from < d.to) × (d.to ≤ horizon)) ds left.windowed;
      all_open = open_unplaced (compressed free) p ds left.all_open;
      free_left = non_empty_after horizon free p proper ds left.free_left;
    }

pub next_round : (free : ℕ → Bool) (ds : List Demand) (p : Pair) → AreLeft free ds → Some p ≡ best_pair_of (windows free ds) → Next free ds p
next_round free [] p left found = cc
next_round free (d ∷ ds) p left found =
    let q = best_pair (seen (compressed free) d) (windows free (d ∷ ds)) in
    let rest = unplaced (compressed free) q (d ∷ ds) in
    let rounds : Rounds free (d ∷ ds) (q ∷ pairs (length ds) (still_free free q) rest) = pairs_rounds horizon (length (d ∷ ds)) free (d ∷ ds) (omega arith) left.free_left left.all_open in
    let after : AreLeft (still_free free q) rest = left_after free (d ∷ ds) q rounds.1.proper left in
    let same : pairs (length ds) (still_free free q) rest ≡ pairs (length rest) (still_free free q) rest =
    rounds_unique (still_free free q) rest (pairs (length ds) (still_free free q) rest) (pairs (length rest) (still_free free q) rest) rounds.2
    (pairs_rounds horizon (length rest) (still_free free q) rest (omega arith) after.free_left after.all_open) in
    let is : q ≡ p = cc in
    subst (Next free (d ∷ ds)) is (record {
      within = round_within horizon free (d ∷ ds) q (pairs (length ds) (still_free free q) rest) rounds left.free_left left.all_open;
      block_is = ap (λ ps. block_of (block horizon free (d ∷ ds) q) ∷ map block_of (blocks_of horizon (still_free free q) rest ps)) same;
      left = after;
    })

-- what the steps of a round say: of the free ticks xs, the demands ds, the table of compressed times, the pair p, the ticks that are marked,
-- and the free ticks ys and the demands es afterwards
pub record Steps (xs : List Bool) (ds : List Demand) (times : List ℕ) (p : Pair) (marks ys : List Bool) (es : List Demand) : Type 0 where
  pub before : AreLeft (is_free_in xs) ds
  pub size : length xs ≡ 256
  pub table : (t : ℕ) → t ≤ 256 → listed times t ≡ compressed (is_free_in xs) t
  pub best : Some p ≡ best_pair_of (map (seen (listed times)) ds)
  pub marks_long : length marks ≡ 256
  pub marked : (t : ℕ) → t < 256 → is_marked_in marks t ≡ (is_free_in xs t && between p (listed times t))
  pub free_long : length ys ≡ 256
  pub freed : (t : ℕ) → t < 256 → is_free_in ys t ≡ (is_free_in xs t && not (is_marked_in marks t))
  pub kept : es ≡ unplaced (listed times) p ds

module _ (xs : List Bool) (ds : List Demand) (times : List ℕ) (p : Pair) (marks ys : List Bool) (es : List Demand) (steps : Steps xs ds times p marks ys es) where
  windowed : NonEmpty 256 ds
  windowed = subst (λ n. NonEmpty n ds) theory.ticks steps.before.windowed

  windows_are : map (seen (listed times)) ds ≡ windows (is_free_in xs) ds
  windows_are = windows_by (is_free_in xs) times steps.table ds windowed

  next : Next (is_free_in xs) ds p
  next = next_round (is_free_in xs) ds p steps.before (steps.best ∙ ap best_pair_of windows_are)

  within : p.high ≤ compressed (is_free_in xs) 256
  within = subst (λ n. p.high ≤ compressed (is_free_in xs) n) theory.ticks next.within

  taken_are : is_marked_in marks ≡ taken (is_free_in xs) p
  taken_are = taken_by xs times p steps.size steps.table within marks steps.marks_long steps.marked

  free_are : is_free_in ys ≡ still_free (is_free_in xs) p
  free_are = free_by xs times p steps.size steps.table within marks ys steps.free_long taken_are steps.freed

  rest_are : es ≡ unplaced (compressed (is_free_in xs)) p ds
  rest_are = steps.kept ∙ unplaced_by (is_free_in xs) times steps.table p ds windowed

  pub steps_leave : AreLeft (is_free_in ys) es
  steps_leave = rw (free_are, rest_are) next.left

  -- the block that the code makes of them
  pub steps_block : (b : RelativeBlock) → b.speed ≡ (pair_work (map (seen (listed times)) ds) p, extent p) → b.from ≡ first_tick (is_marked_in marks) (length marks)
      → b.to ≡ past_tick (is_marked_in marks) (length marks) → blocks_to_come (is_free_in xs) ds ≡ b ∷ blocks_to_come (is_free_in ys) es
  steps_block b speed first past =
      let long : length marks ≡ horizon = steps.marks_long ∙ sym theory.ticks in
      let speed_is : b.speed ≡ (pair_work (windows (is_free_in xs) ds) p, extent p) = speed ∙ ap (λ ws. (pair_work ws p, extent p)) windows_are in
      let first_is : b.from ≡ first_tick (taken (is_free_in xs) p) horizon = first ∙ ap₂ first_tick taken_are long in
      let past_is : b.to ≡ past_tick (taken (is_free_in xs) p) horizon = past ∙ ap₂ past_tick taken_are long in
      next.block_is ∙ sym (λ i. record { speed = speed_is i; from = first_is i; to = past_is i } ∷ blocks_to_come (free_are i) (rest_are i))
