-- Units and demands, one after the other.
use Rattle.std.proofs.Common.{◌≡◌, ℕ, zero, suc, ◌+◌, ◌-◌, ◌*◌, ◌<◌, ◌≤◌, List, length, get_or, drop, refl, sym, ap, subst, ◌∙◌, arith}
use Rattle.std.proofs.ByRecursion.{All-get_or}
use Rattle.std.proofs.lemmas.List.{drop_more, drop_all}
use Rattle.std.proofs.lemmas.Bool.Decides.{nat_tests}
use Rattle.schedule.specs.Demands.{Demand, Windowed}
use Rattle.schedule.specs.Placing.{State, spot, place_at, fill, run, empty, placing}
use Rattle.schedule.specs.Certificate.{listed}
use Rattle.schedule.specs.InForce.{horizon, InForce, Same, settings_in_force}
use Rattle.schedule.proofs.InForceLaws.{settled_in_force}
use Rattle.schedule.proofs.PlacingLaws.{placing_settled}
use Rattle.schedule.proofs.Theory.{theory}
use Rattle.planner.specs.declared.plan.Plan.{Plan}
use Rattle.planner.specs.Plannable.{IsPlannable}
use Rattle.planner.specs.Plan.{state_of, HasRoom}

-- where nothing is allocated there is room for all units of 64 demands
pub empty_room : (st : State) → st ≡ empty → HasRoom (65535 * 64) st
empty_room st is = rw is (λ t. (omega arith, omega arith))

-- a unit takes one of the room at most
unit_room_left : (k f u : ℕ) (st : State) → HasRoom (k + 1) st → HasRoom k (place_at f u st)
unit_room_left k f u st room t = let (units, slack) = room t in (grind (arith, nat_tests), grind (arith, nat_tests))

less_room : (k n : ℕ) (st : State) → n ≤ k → HasRoom k st → HasRoom n st
less_room k n st le room t = let (units, slack) = room t in (omega arith, omega arith)

fill_room : (k f t n : ℕ) (st : State) → HasRoom (k + n) st → HasRoom k (fill f t n st)
fill_room k f t zero st room = less_room (k + 0) k st (omega arith) room
fill_room k f t (suc n) st room = fill_room k f t n (place_at f (spot f t st) st) (unit_room_left (k + n) f (spot f t st) st (less_room (k + suc n) (k + n + 1) st (omega arith) room))

-- one unit of n is allocated
pub unit_room : (i f t : ℕ) (st after : State) → i < 65535 → after ≡ place_at f (spot f t st) st → HasRoom (65535 - i) st → HasRoom (65535 - (i + 1)) after
unit_room i f t st after lt allocated room =
    rw allocated (unit_room_left (65535 - (i + 1)) f (spot f t st) st (less_room (65535 - i) (65535 - (i + 1) + 1) st (omega arith) room))

pub unit_filled : (i n f t : ℕ) (st after : State) → i < n → after ≡ place_at f (spot f t st) st → fill f t (n - (i + 1)) after ≡ fill f t (n - i) st
unit_filled i n f t st after lt allocated =
    let e : n - i ≡ suc (n - (i + 1)) = omega arith in
    rw (allocated, e) refl

-- a demand of the list ds is allocated, which adds no more units than a number of 16 bits
module _ (ds : List Demand) (i : ℕ) (d : Demand) (st after : State) (filled : after ≡ fill d.from d.to d.units st) where
  pub demand_room : i < 64 → d.units ≤ 65535 → HasRoom (65535 * (64 - i)) st → HasRoom (65535 * (64 - (i + 1))) after
  demand_room lt le room = rw filled (fill_room (65535 * (64 - (i + 1))) d.from d.to d.units st (less_room (65535 * (64 - i)) (65535 * (64 - (i + 1)) + d.units) st (omega arith) room))

  pub demand_run : i < length ds → d ≡ get_or ds i d → run (drop (i + 1) ds) after ≡ run (drop i ds) st
  demand_run lt is = rw (drop_more ds i d lt, ← is, filled) refl

pub all_run : (ds : List Demand) (i : ℕ) (st : State) → length ds ≤ i → run (drop i ds) st ≡ st
all_run ds i st le = rw (drop_all i ds le) refl

-- each demand of the list has its window
pub window : (ds : List Demand) (i : ℕ) (d : Demand) → IsPlannable ds → i < length ds → d ≡ get_or ds i d → Windowed 256 d
window ds i d plannable lt is = subst (λ n. Windowed n d) theory.ticks (subst (Windowed horizon) (sym is) (All-get_or (Windowed horizon) ds i d lt plannable.sound))

-- once all are allocated, the units are the settings in force
module _ (ds : List Demand) (p : Plan) (plannable : IsPlannable ds) (done : state_of p ≡ run ds empty) where
  pub units_same : Same horizon (listed p.units) (settings_in_force ds)
  units_same t lt = ap (λ (st : State). st.settings t) done ∙ sym (theory.planning.placed ds plannable.sound plannable.sorted t lt)

  pub units_in_force : InForce horizon ds (listed p.units)
  units_in_force = subst (λ (st : State). InForce horizon ds st.settings) (sym done) (settled_in_force horizon ds (placing ds) plannable.sound (placing_settled horizon ds plannable.sound plannable.sorted))
