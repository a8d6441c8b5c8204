-- The critical blocks of a book, by those of its demands.
use Rattle.std.proofs.Common.{◌≡◌, ℕ, ◌+◌, ◌<◌, ◌≤◌, false, ltb, List, [], ◌∷◌, ◌++◌, get_or, set, drop, length, map, Ok, refl, ap, subst, ◌∙◌, arith}
use Rattle.std.proofs.Math.Seq.{paste}
use Rattle.std.specs.List.{All}
use Rattle.std.proofs.lemmas.Bool.Decides.{nat_tests}
use Rattle.std.proofs.lemmas.List.{length-map, get_or-map}
use Rattle.std.proofs.lemmas.List.Edits.{paste_more, paste_all}
use Rattle.std.proofs.lemmas.List.Elements.{All-head, All-tail}
use Rattle.schedule.specs.Demands.{Demand}
use Rattle.schedule.specs.InForce.{horizon}
use Rattle.schedule.specs.Blocks.{blocks, Block as TheoryBlock}
use Rattle.schedule.specs.Theory.{Blocked}
use Rattle.planner.specs.declared.blocks.RelativeBlock.{RelativeBlock}
use Rattle.planner.specs.Blocks.{block_of, open_demands, critical_blocks}
use Rattle.layout.specs.declared.job.Job.{Job}
use Rattle.book.specs.declared.blocks.CriticalBlock.{CriticalBlock}
use Rattle.book.specs.Demands.{demands}
use Rattle.book.specs.Book.{View, IsOpenAt}
use Rattle.book.specs.Blocks.{block_in_time, book_blocks, blocks_outcome}
use Rattle.book.specs.Lists.{list_with}
use Rattle.book.specs.Outcomes.{accepted_outcome}

-- all open jobs have work left
open-demands : (now : ℕ) (js : List Job) → All (IsOpenAt now) js → open_demands (demands now js) ≡ demands now js
open-demands now [] open_at = refl
open-demands now (j ∷ js) open_at =
    let here = All-head (IsOpenAt now) j js open_at in
    let rest = open-demands now js (All-tail (IsOpenAt now) j js open_at) in
    let some = here.work_left in
    grind (arith, nat_tests)

block_in_time-told : (now : ℕ) (cs : List TheoryBlock) → map (block_in_time now) (map block_of cs) ≡ map (λ c. block_in_time now (block_of c)) cs
block_in_time-told now [] = refl
block_in_time-told now (c ∷ cs) = ap (λ bs. block_in_time now (block_of c) ∷ bs) (block_in_time-told now cs)

-- the blocks of the planner, counted from now, are those of the book
pub blocks_are : (b : View) (ds : List Demand) (items : List RelativeBlock) → All (IsOpenAt b.now) b.jobs → ds ≡ demands b.now b.jobs → items ≡ critical_blocks ds → map (block_in_time b.now) items ≡ book_blocks b
blocks_are b ds items open_at of_jobs of_demands =
    ap (map (block_in_time b.now)) of_demands
    ∙ block_in_time-told b.now (blocks horizon (open_demands ds))
    ∙ ap (λ es. map (λ c. block_in_time b.now (block_of c)) (blocks horizon es)) (ap open_demands of_jobs ∙ open-demands b.now b.jobs open_at)

-- and what is said of them holds of the book's demands
pub blocked_open : (b : View) (ds : List Demand) → All (IsOpenAt b.now) b.jobs → ds ≡ demands b.now b.jobs → Blocked horizon (open_demands ds) → Blocked horizon (demands b.now b.jobs)
blocked_open b ds open_at of_jobs = subst (Blocked horizon) (ap open_demands of_jobs ∙ open-demands b.now b.jobs open_at)

-- they are written into the first elements of a list, one after the other
module _ (now : ℕ) (items : List RelativeBlock) (list : List CriticalBlock) (room : length items ≤ length list) where
  pub block_written : (i : ℕ) (d : RelativeBlock) → i < length items → set (paste list 0 (map (block_in_time now) items) i) i (block_in_time now (get_or items i d)) ≡ paste list 0 (map (block_in_time now) items) (i + 1)
  block_written i d lt =
      let size = length-map items (block_in_time now) in
      let e : get_or (map (block_in_time now) items) i (block_in_time now d) ≡ block_in_time now (get_or items i d) = get_or-map (block_in_time now) items i d (block_in_time now d) lt in
      subst (λ x. set (paste list 0 (map (block_in_time now) items) i) i x ≡ paste list 0 (map (block_in_time now) items) (i + 1)) e
      (subst (λ k. set (paste list 0 (map (block_in_time now) items) i) k (get_or (map (block_in_time now) items) i (block_in_time now d)) ≡ paste list 0 (map (block_in_time now) items) (i + 1)) (omega arith)
      (paste_more list 0 (map (block_in_time now) items) i (block_in_time now d) (omega arith) (omega (arith, size))))

  pub all_written : (i : ℕ) → i ≡ length items → paste list 0 (map (block_in_time now) items) i ≡ map (block_in_time now) items ++ drop (length items) list
  all_written i done =
      let size = length-map items (block_in_time now) in
      paste_all list 0 (map (block_in_time now) items) i (omega (arith, size)) ∙ ap (λ k. map (block_in_time now) items ++ drop k list) (omega arith)

-- a list with enough elements is not refused
module _ (b : View) (list : List CriticalBlock) (room : 64 ≤ length list) where
  blocked_none : blocks_outcome b list ≡ accepted_outcome (length (book_blocks b)) b (list_with (book_blocks b) list)
  blocked_none = let enough : ltb (length list) 64 ≡ false = grind (arith, nat_tests) in rw enough refl

  -- the planner's blocks are written
  module _ (items : List RelativeBlock) (are : map (block_in_time b.now) items ≡ book_blocks b) where
    pub written_answer : Ok (length items) ≡ (blocks_outcome b list).answer
    written_answer = rw (blocked_none, ← are, length-map items (block_in_time b.now)) refl

    pub written_list : map (block_in_time b.now) items ++ drop (length items) list ≡ (blocks_outcome b list).list
    written_list = rw (blocked_none, ← are, length-map items (block_in_time b.now)) refl
