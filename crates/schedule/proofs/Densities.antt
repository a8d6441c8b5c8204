-- Work over length does not rise from round to round.
use Rattle.std.proofs.Common.{◌≡◌, ℕ, ◌+◌, ◌*◌, ◌<◌, ◌≤◌, Bool, true, List, [], ◌∷◌, refl, inl, inr, arith}
use Rattle.std.specs.List.{AllByRecursion}
use Rattle.std.proofs.lemmas.Bool.Decides.{nat_tests}
use Rattle.std.proofs.lemmas.Bool.{cases_lt}
use Rattle.schedule.specs.Demands.{Demand}
use Rattle.schedule.specs.Work.{inside}
use Rattle.schedule.specs.Compressed.{compressed, seen, NonEmpty, windows}
use Rattle.schedule.specs.BestPair.{Pair, extent, pair_work, Best}
use Rattle.schedule.specs.Rounds.{unplaced, still_free, Rounds}
use Rattle.schedule.specs.Blocks.{blocks_of}
use Rattle.schedule.proofs.Ratios.{ratio_trans, ratio_less, ratio_rest}
use Rattle.schedule.proofs.CompressedLaws.{compressed_after, inside_parts, non_empty_after, collapse}
use Rattle.schedule.proofs.BestPairs.{densest}

-- no pair is denser than w to l
abbrev Thinner : List Demand → ℕ → ℕ → Type 0
Thinner ws w l = (q : Pair) → q.low < q.high → pair_work ws q * l ≤ w * extent q

module _ (n : ℕ) (free : ℕ → Bool) (p q r : Pair) (proper : p.low < p.high)
    (holds : (x y : ℕ) → x < y → q.low ≤ collapse p x → collapse p y ≤ q.high → (r.low ≤ x) × (y ≤ r.high)) where
  -- a demand that lies inside q after the round lay inside r before it
  seen_moved : (d : Demand) → compressed free d.from < compressed free d.to → inside q.low q.high (seen (compressed (still_free free p)) d) ≡ true →
      (r.low ≤ compressed free d.from) × (compressed free d.to ≤ r.high)
  seen_moved d non_empty test =
      let (begun, ended) = inside_parts q.low q.high (seen (compressed (still_free free p)) d) test in
      holds (compressed free d.from) (compressed free d.to) non_empty (omega (arith, compressed_after free p proper d.from)) (omega (arith, compressed_after free p proper d.to))

  pair_work_moved : (ds : List Demand) → NonEmpty (compressed free n) (windows free ds)
      → pair_work (windows (still_free free p) (unplaced (compressed free) p ds)) q ≤ pair_work (windows free ds) r
  pair_work_moved [] non_empty = omega arith
  pair_work_moved (d ∷ ds) non_empty = grind (arith, nat_tests, pair_work_moved ds non_empty.1, seen_moved d non_empty.0.0)

  -- where r holds p, so did the demands of the round
  pair_work_joined : r.low ≤ p.low → p.high ≤ r.high → (ds : List Demand) → NonEmpty (compressed free n) (windows free ds) →
      pair_work (windows (still_free free p) (unplaced (compressed free) p ds)) q + pair_work (windows free ds) p ≤ pair_work (windows free ds) r
  pair_work_joined low high [] non_empty = omega arith
  pair_work_joined low high (d ∷ ds) non_empty = grind (arith, nat_tests, pair_work_joined low high ds non_empty.1, seen_moved d non_empty.0.0)

-- after a round no pair is denser than that round
module _ (n : ℕ) (free : ℕ → Bool) (ds : List Demand) (p : Pair) (best : Best (windows free ds) p) (non_empty : NonEmpty (compressed free n) (windows free ds)) where
  densities_fall : Thinner (windows (still_free free p) (unplaced (compressed free) p ds)) (pair_work (windows free ds) p) (extent p)
  densities_fall q proper =
      let l = extent p in
      let w = pair_work (windows free ds) p in
      let after = pair_work (windows (still_free free p) (unplaced (compressed free) p ds)) q in
      let pp = best.proper in
      elim (cases_lt q.high p.low) [
        | inl early ↦
            let moved = pair_work_moved n free p q q pp (λ x y xy low high. omega arith) ds non_empty in
            let dense = densest (compressed free n) (windows free ds) p best non_empty q in
            ratio_less after (pair_work (windows free ds) q) l w (extent q) (extent q) moved dense refl
        | inr late ↦ elim (cases_lt p.low q.low) [
          | inl past ↦
              let r : Pair = record { low = q.low + l; high = q.high + l } in
              let moved = pair_work_moved n free p q r pp (λ x y xy low high. omega arith) ds non_empty in
              let dense = densest (compressed free n) (windows free ds) p best non_empty r in
              ratio_less after (pair_work (windows free ds) r) l w (extent q) (extent r) moved dense (omega arith)
          | inr cross ↦
              let r : Pair = record { low = q.low; high = q.high + l } in
              let joined = pair_work_joined n free p q r pp (λ x y xy low high. omega arith) (omega arith) (omega arith) ds non_empty in
              let dense = densest (compressed free n) (windows free ds) p best non_empty r in
              ratio_rest after (pair_work (windows free ds) r) l w (extent q) (extent r) joined dense (omega arith)
        ]
      ]

  -- what bounds the density of a round bounds that of the next
  still_thinner : (w l : ℕ) → Thinner (windows free ds) w l → Thinner (windows (still_free free p) (unplaced (compressed free) p ds)) w l
  still_thinner w l thin q proper =
      ratio_trans (pair_work (windows (still_free free p) (unplaced (compressed free) p ds)) q) (extent q) (pair_work (windows free ds) p) (extent p) w l (omega (arith, best.proper))
      (densities_fall q proper) (thin p best.proper)

-- no block of the rounds that follow is denser, and none is empty
later_thinner : (n : ℕ) (free : ℕ → Bool) (ds : List Demand) (ps : List Pair) (w l : ℕ) → Rounds free ds ps → NonEmpty (compressed free n) (windows free ds)
    → Thinner (windows free ds) w l →
    AllByRecursion (λ b. (b.load * l ≤ w * b.size) × (0 < b.size)) (blocks_of n free ds ps)
later_thinner n free ds [] w l rounds non_empty thin = tt
later_thinner n free ds (p ∷ ps) w l rounds non_empty thin =
    let best = rounds.1 in (
      (thin p best.proper, omega (arith, best.proper)),
      later_thinner n (still_free free p) (unplaced (compressed free) p ds) ps w l rounds.2 (non_empty_after n free p best.proper ds non_empty) (still_thinner n free ds p best non_empty w l thin),
    )

-- each block is at least as dense as those after it
pub falling : (n : ℕ) (free : ℕ → Bool) (ds : List Demand) (p : Pair) (ps : List Pair) → Rounds free ds (p ∷ ps) → NonEmpty (compressed free n) (windows free ds) →
    AllByRecursion (λ b. (b.load * extent p ≤ pair_work (windows free ds) p * b.size) × (0 < b.size)) (blocks_of n (still_free free p) (unplaced (compressed free) p ds) ps)
falling n free ds p ps rounds non_empty =
    later_thinner n (still_free free p) (unplaced (compressed free) p ds) ps (pair_work (windows free ds) p) (extent p) rounds.2
    (non_empty_after n free p rounds.1.proper ds non_empty) (densities_fall n free ds p rounds.1 non_empty)
