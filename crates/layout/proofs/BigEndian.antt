-- Numbers in bytes.
use Rattle.std.proofs.Common.{◌≡◌, ℕ, zero, suc, ◌+◌, ◌-◌, ◌/◌, ◌%◌, ◌^◌, ◌<◌, ◌≤◌, List, [], ◌∷◌, ◌++◌, map, length, drop, get_or, take, replicate, w64, sym, refl, ap, ◌∙◌, pow-suc, arith}
use native.Mathlib.Nat.{div-div-eq-div-mul}
use Rattle.std.specs.Int.{from_be_bytes}
use Rattle.std.specs.List.{range_with_len}
use Rattle.std.proofs.lemmas.List.FromFn.{fill_by_all}
use Rattle.std.proofs.lemmas.Int.Digits.{number_push, number_more, number_lt}
use borrow.Rule.Slice.PartMut.{put_mid}
use Rattle.std.proofs.lemmas.List.{append-nil, drop-replicate, length-append, length-replicate, length-take-le, take-replicate, take_more}
use Rattle.std.proofs.lemmas.List.Elements.{All-from_get_or, All-take, recursion_from_All}
use Rattle.layout.specs.BigEndian.{number, bytes}

-- a list of known length, byte by byte
pub spelt_out : (n : ℕ) (bs : List ℕ) → length bs ≡ n → bs ≡ map (λ k. get_or bs k 0) (range_with_len 0 n)
spelt_out n bs e = fill_by_all (λ k. get_or bs k 0) bs n 0 e (λ k h. refl)

-- eight bytes as `from_be_bytes` adds them up
number_eight : (bs : List ℕ) → length bs ≡ 8 → from_be_bytes w64 bs ≡ number bs
number_eight bs e = omega (arith, ap number (spelt_out 8 bs e))

-- zeros before bytes add nothing
number_after_zeros : (z : ℕ) (bs : List ℕ) → number (replicate z 0 ++ bs) ≡ number bs
number_after_zeros zero bs = refl
number_after_zeros (suc z) bs = number_after_zeros z bs

-- bytes at the end of eight zeros, as `from_be_bytes` adds them up
pub number_padded : (bs : List ℕ) → length bs ≤ 8 → from_be_bytes w64 (put_mid (8 - length bs) (8 - (8 - length bs)) (replicate 8 0) bs) ≡ number bs
number_padded bs h =
    let z = 8 - length bs in
    let none : 8 - z - (8 - z) ≡ 0 = omega arith in
    let front : take z (replicate 8 0) ≡ replicate z 0 = take-replicate z 8 0 (omega arith) in
    let back : drop (8 - z) (drop z (replicate 8 0)) ≡ [] = ap (drop (8 - z)) (drop-replicate z 8 0) ∙ drop-replicate (8 - z) (8 - z) 0 ∙ ap (λ n. replicate n 0) none in
    let whole : put_mid z (8 - z) (replicate 8 0) bs ≡ replicate z 0 ++ bs = (λ i. front i ++ (bs ++ back i)) ∙ ap (λ r. replicate z 0 ++ r) (append-nil bs) in
    ap (from_be_bytes w64) whole ∙ number_eight (replicate z 0 ++ bs) (omega (arith, length-append (replicate z 0) bs, length-replicate {A = ℕ} z 0)) ∙ number_after_zeros z bs

-- six bytes as `to_be_bytes` spells them
pub bytes_six : (n : ℕ) → bytes 6 n ≡ (n / 1099511627776 % 256) ∷ (n / 4294967296 % 256) ∷ (n / 16777216 % 256) ∷ (n / 65536 % 256) ∷ (n / 256 % 256) ∷ (n % 256) ∷ []
bytes_six n = simp div-div-eq-div-mul

-- a number that fits k bytes is what they hold
pub number-bytes : (k n : ℕ) → n < 256 ^ k → number (bytes k n) ≡ n
number-bytes zero n h = omega arith
number-bytes (suc k) n h =
    number_push 256 (bytes k (n / 256)) (n % 256)
    ∙ (let p = pow-suc 256 k in
    let e = number-bytes k (n / 256) (omega arith) in
    omega (arith, e))

-- bytes are the bytes of their number
pub bytes-number : (bs : List ℕ) → ((i : ℕ) → get_or bs i 0 < 256) → (k : ℕ) → k ≤ length bs → bytes k (number (take k bs)) ≡ take k bs
bytes-number bs u zero h = refl
bytes-number bs u (suc k) h =
    let more = number_more 256 bs k (omega arith) in
    let up = take_more bs k 0 (omega arith) in
    let q : number (take (k + 1) bs) / 256 ≡ number (take k bs) = omega (arith, more, u k) in
    let r : number (take (k + 1) bs) % 256 ≡ get_or bs k 0 = omega (arith, more, u k) in
    let s : suc k ≡ k + 1 = omega arith in
    ap (λ n. bytes (suc k) (number (take n bs))) s
    ∙ (λ i. bytes k (q i) ++ (r i ∷ []))
    ∙ ap (λ t. t ++ (get_or bs k 0 ∷ [])) (bytes-number bs u k (omega arith))
    ∙ sym up ∙ ap (λ n. take n bs) (sym s)

-- k bytes hold a number below 256 ^ k
pub number_fits : (bs : List ℕ) → ((i : ℕ) → get_or bs i 0 < 256) → (k : ℕ) → k ≤ length bs → number (take k bs) < 256 ^ k
number_fits bs u k h =
    let small = All-from_get_or (λ d. d < 256) bs 0 (λ i q. u i) in
    let below = number_lt 256 (take k bs) (recursion_from_All (λ d. d < 256) (take k bs) (All-take (λ d. d < 256) k bs small)) in
    rw length-take-le at below

-- k bytes hold a number below 256 ^ k
pub bytes_fit : (k n : ℕ) → number (bytes k n) < 256 ^ k
bytes_fit zero n = omega arith
bytes_fit (suc k) n = let rest = bytes_fit k (n / 256) in let push = number_push 256 (bytes k (n / 256)) (n % 256) in let p = pow-suc 256 k in omega (arith, push)
