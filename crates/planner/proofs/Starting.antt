-- The demands that the first round finds.
use Rattle.std.proofs.Common.{◌≡◌, ℕ, ◌≤◌, Bool, true, not, List, [], ◌∷◌, length, replicate, nat_lt, inl, inr, refl, arith}
use mathlib.Core.Path.{fun_ext}
use Rattle.std.proofs.lemmas.Bool.{cases_lt}
use Rattle.std.proofs.lemmas.Bool.Decides.{nat_tests}
use Rattle.std.proofs.lemmas.List.{get_or-replicate, get_or_past, length-replicate, length-map}
use Rattle.std.proofs.lemmas.List.Filters.{length-filter_both}
use Rattle.schedule.specs.Demands.{Demand, Sound, AllOpen}
use Rattle.schedule.specs.Compressed.{all_free, NonEmpty}
use Rattle.schedule.specs.InForce.{horizon}
use Rattle.schedule.specs.Blocks.{blocks}
use Rattle.schedule.specs.Theory.{Blocked}
use Rattle.schedule.proofs.CompressedLaws.{non_empty_first, non_empty_sound}
use Rattle.schedule.proofs.Theory.{theory}
use Rattle.planner.specs.Ticks.{is_free_in}
use Rattle.planner.specs.Plannable.{IsPlannable}
use Rattle.planner.specs.Blocks.{block_of, open_demands, critical_blocks}
use Rattle.planner.specs.Rounds.{blocks_to_come, AreLeft}

-- at first all ticks are free
all_are_free : is_free_in (replicate 256 true) ≡ all_free
all_are_free = fun_ext (λ t. elim (cases_lt t 256) [
  | inl lt ↦ get_or-replicate 256 t true true lt
  | inr le ↦ get_or_past (replicate 256 true) t true (omega (arith, length-replicate {A = Bool} 256 true))
])

-- the demands with work left have their windows, and work left
open_windowed : (m : ℕ) (ds : List Demand) → Sound m ds → NonEmpty m (open_demands ds)
open_windowed m [] sound = tt
open_windowed m (d ∷ ds) sound = let rest = open_windowed m ds sound.1 in let here = sound.0 in grind (arith, nat_tests)

open_open : (ds : List Demand) → AllOpen (open_demands ds)
open_open [] = tt
open_open (d ∷ ds) = let rest = open_open ds in grind (arith, nat_tests)

open_few : (ds : List Demand) → length (open_demands ds) ≤ length ds
open_few ds = let has_work : Demand → Bool = λ d. nat_lt 0 d.units in omega (arith, length-filter_both has_work (λ d. not (has_work d)) (λ _. refl) ds)

pub first_left : (ds : List Demand) → IsPlannable ds → AreLeft (is_free_in (replicate 256 true)) (open_demands ds)
first_left ds plannable =
    let windowed = open_windowed horizon ds plannable.sound in
    let all_open = open_open ds in
    rw all_are_free (record {
      windowed = windowed;
      all_open = all_open;
      free_left = non_empty_first horizon (open_demands ds) (non_empty_sound horizon (open_demands ds) windowed) all_open;
    })

-- the theory of blocks holds of them
pub open_blocked : (ds : List Demand) → IsPlannable ds → Blocked horizon (open_demands ds)
open_blocked ds plannable = theory.blocking.blocked horizon (open_demands ds) (non_empty_sound horizon (open_demands ds) (open_windowed horizon ds plannable.sound)) (open_open ds)

-- there are no more blocks than demands
pub blocks_few : (ds : List Demand) → IsPlannable ds → length (critical_blocks ds) ≤ 64
blocks_few ds plannable =
    omega (arith, length-map (blocks horizon (open_demands ds)) block_of, (open_blocked ds plannable).critical.few, open_few ds, plannable.few)

pub first_blocks : (ds : List Demand) → blocks_to_come (is_free_in (replicate 256 true)) (open_demands ds) ≡ critical_blocks ds
first_blocks ds = rw all_are_free refl
