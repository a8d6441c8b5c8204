-- What a tick does that serves the first setting in force, the earliest deadline first.
use Rattle.std.proofs.Common.{◌≡◌, ℕ, suc, ◌<◌, ◌≤◌, List, sum, arith}
use Rattle.std.specs.List.Sorted.{IsPermutation}
use Rattle.std.proofs.ByRecursion.{All-weaker, all_shuffled}
use Rattle.std.proofs.lemmas.List.Elements.{All-from_recursion}
use Rattle.schedule.specs.Demands.{Demand, Windowed, Sound, Sorted}
use Rattle.schedule.specs.Overload.{NoneOverloaded}
use Rattle.schedule.specs.Edf.{serve, next}
use Rattle.schedule.specs.Settled.{Settled}
use Rattle.schedule.specs.InForce.{horizon, Same, settings_in_force}
use Rattle.schedule.specs.Theory.{Ticked}
use Rattle.schedule.proofs.WorkLaws.{work_any_order}
use Rattle.schedule.proofs.EdfStep.{fits_next, sound_next, serve_all, sorted_next, due_none_left}
use Rattle.schedule.proofs.OverloadLaws.{none_overloaded_longer}
use Rattle.schedule.proofs.Hall.{fits_does, none_overloaded_iff}
use Rattle.schedule.proofs.Least.{settled_total}
use Rattle.schedule.proofs.InForceLaws.{in_force_settled, in_force_within, in_force_by_work}

-- a tick of settled settings, with n ticks to come
module _ (n : ℕ) (ds : List Demand) (s : ℕ → ℕ) (sorted : Sorted ds) (sound : Sound (suc n) ds) (settled : Settled (suc n) ds s) where
  -- what is left, and the settings that are left for it
  abbrev rest : List Demand
  rest = next (s 0) ds

  abbrev then : ℕ → ℕ
  then t = s (suc t)

  tick_gives : sum (serve (s 0) ds) ≡ s 0
  tick_gives = serve_all n ds s sorted sound settled.fits (settled_total (suc n) ds s sound settled)

  sound_rest : Sound n rest
  sound_rest = sound_next n ds s sorted sound settled.fits

  sound_again : Sound (suc n) rest
  sound_again = All-weaker (Windowed n) (Windowed (suc n)) (λ d at some. omega (arith, at some)) rest sound_rest

  -- what is left fits settings within the top, so it overloads no interval
  none_overloaded_rest : (top : ℕ) → ((t : ℕ) → t < suc n → s t ≤ top) → NoneOverloaded (suc n) rest top
  none_overloaded_rest top within = none_overloaded_longer n (suc n) rest top (omega arith) sound_rest
      ((none_overloaded_iff n rest top sound_rest).1 (then, (λ t tn. within (suc t) (omega arith)), fits_does n rest then sound_rest (fits_next n ds s sorted settled.fits)))

-- so for the settings in force
pub ticked : (ds : List Demand) → Sorted ds → Sound horizon ds → Ticked ds
unfolding horizon
ticked ds sorted sound =
    let s = settings_in_force ds in
    let settled : Settled 256 ds s = in_force_settled ds in
    record {
      gives = tick_gives 255 ds s sorted sound settled;
      in_time = All-from_recursion _ (next (s 0) ds) (due_none_left 255 ds s sorted sound settled.fits);
      none_overloaded = λ top none. none_overloaded_rest 255 ds s sorted sound settled top (in_force_within ds top none);
      sound = sound_again 255 ds s sorted sound settled;
      sorted = sorted_next (s 0) ds sorted;
    }

-- and in any order of the demands
pub any_order : (ds es : List Demand) → Sound horizon ds → IsPermutation ds es → Sorted es → Same horizon (settings_in_force es) (settings_in_force ds) × Ticked es
any_order ds es sound shuffled sorted = (
  in_force_by_work es ds (λ a b _ _. work_any_order ds es a b shuffled),
  ticked es sorted (all_shuffled (Windowed horizon) ds es shuffled sound),
)
