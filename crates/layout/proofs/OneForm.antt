-- An accepted record has one written form.
use Rattle.std.proofs.Common.{◌≡◌, ℕ, zero, suc, ◌+◌, ◌-◌, ◌^◌, ◌<◌, ◌≤◌, true, false, ◌&&◌, ltb, leb, List, [], ◌∷◌, ◌++◌, length, get_or, drop, replicate, Some, None, Ok, sym, refl, ap, ◌∙◌, subst, arith}
use Rattle.std.proofs.lemmas.List.{length-drop, length-take-le, length-replicate, get_or-drop, get_or-take, get_or-replicate, ext_get_or}
use Rattle.std.proofs.lemmas.Bool.{le-ltb, eqb-true, and_right}
use Rattle.std.proofs.lemmas.Bool.Decides.{nat_tests}
use Rattle.std.proofs.lemmas.List.Elements.{All-from_get_or}
use Rattle.std.proofs.lemmas.List.Sums.{list_all-from_AllPass}
use Rattle.layout.specs.declared.kind.Kind.{Kind}
use Rattle.layout.specs.declared.kind.Kind.TheVariants.{Offer, Strike, Tick}
use Rattle.layout.specs.BigEndian.{number, bytes, part}
use Rattle.layout.specs.Content.{Content, offer, strike, tick}
use Rattle.layout.specs.Jobs.{job_in, record_bytes}
use Rattle.layout.specs.Label.{is_label}
use Rattle.layout.specs.Layout.{label_in, kind_byte, kind_of, is_printable, numbers_end, is_label_byte, is_allowed, first_forbidden}
use Rattle.layout.specs.Reading.{content_in}
use Rattle.layout.specs.RoundTrip.{trimmed_content, IsWritable, IsOnlyForm}
use Rattle.layout.specs.Writing.{bare_job, blank_label, encoding_of}
use Rattle.layout.proofs.BigEndian.{spelt_out, bytes-number, number_fits}
use Rattle.layout.proofs.Labels.{label_is, label_parts, same_from_trimmed}
use Rattle.layout.proofs.WrittenReads.{offer_parts}

-- where no byte is forbidden, each is allowed
none_forbidden : (k : Kind) (i : ℕ) (bs : List ℕ) → first_forbidden k i bs ≡ None → (j m : ℕ) → m ≡ i + j → j < length bs → is_allowed k m (get_or bs j 0) ≡ true
none_forbidden k i [] e j m q h = absurd (omega arith)
none_forbidden k i (b ∷ bs) e zero m q h = grind (arith, nat_tests)
none_forbidden k i (b ∷ bs) e (suc j) m q h = none_forbidden k (i + 1) bs (grind (arith, nat_tests)) j m (omega arith) (omega arith)

zero_there : (k : Kind) (i v : ℕ) → i < 18 → (leb 2 i && ltb i (numbers_end k)) ≡ false → is_allowed k i v ≡ true → v ≡ 0
zero_there k i v h n e = grind (arith, nat_tests)

label_there : (k : Kind) (i v : ℕ) → 18 ≤ i → is_allowed k i v ≡ true → is_label_byte k v ≡ true
label_there k i v h e = grind (arith, nat_tests)

-- a part with one value throughout
filled_part : (b : List ℕ) (at n v : ℕ) → at + n ≤ length b → ((i : ℕ) → at ≤ i → i < at + n → get_or b i 0 ≡ v) → part at n b ≡ replicate n v
filled_part b at n v h e =
    let l = length-take-le n (drop at b) (omega (arith, length-drop at b)) in
    ext_get_or 0 (part at n b) (replicate n v) (l ∙ sym (length-replicate n v)) (λ j q.
    let j< : j < n = omega (arith, l) in
    get_or-take n (drop at b) j 0 j< ∙ get_or-drop at b j 0 ∙ e (at + j) (omega arith) (omega arith) ∙ sym (get_or-replicate n j v 0 j<))

-- 24 bytes, field by field
abbrev fields : List ℕ → List ℕ
fields b = get_or b 0 0 ∷ get_or b 1 0 ∷ (part 2 2 b ++ (part 4 6 b ++ (part 10 6 b ++ (part 16 2 b ++ part 18 6 b))))

-- 24 bytes of a kind, none of them forbidden
module _ (k : Kind) (b : List ℕ) (long : length b ≡ 24) (small : (i : ℕ) → get_or b i 0 < 256) (kind : get_or b 0 0 ≡ kind_byte k) (free : first_forbidden k 1 (drop 1 b) ≡ None) where
  allowed_at : (i : ℕ) → 1 ≤ i → i < 24 → is_allowed k i (get_or b i 0) ≡ true
  allowed_at i l h =
      let at : 1 + (i - 1) ≡ i = omega arith in
      ap (λ v. is_allowed k i v) (ap (λ n. get_or b n 0) (sym at) ∙ sym (get_or-drop 1 b (i - 1) 0))
      ∙ none_forbidden k 1 (drop 1 b) free (i - 1) i (omega arith) (omega (arith, length-drop 1 b))

  small_part : (at i : ℕ) → get_or (drop at b) i 0 < 256
  small_part at i = rw get_or-drop (small (at + i))

  part_bytes : (at n : ℕ) → at + n ≤ 24 → bytes n (number (part at n b)) ≡ part at n b
  part_bytes at n h = bytes-number (drop at b) (small_part at) n (omega (arith, length-drop at b))

  part_fits : (at n : ℕ) → at + n ≤ 24 → number (part at n b) < 256 ^ n
  part_fits at n h = number_fits (drop at b) (small_part at) n (omega (arith, length-drop at b))

  record_bytes-in : record_bytes (kind_byte k) (job_in b) (label_in b) ≡ b
  record_bytes-in =
      let zero_one : get_or b 1 0 ≡ 0 = zero_there k 1 (get_or b 1 0) (omega arith) refl (allowed_at 1 (omega arith) (omega arith)) in
      (λ i. sym kind i ∷ sym zero_one i ∷ (part_bytes 2 2 (omega arith) i ++ (part_bytes 4 6 (omega arith) i ++ (part_bytes 10 6 (omega arith) i ++ (part_bytes 16 2 (omega arith) i ++ part 18 6 b)))))
      ∙ sym (subst (λ x. x ≡ fields x) (sym (spelt_out 24 b long)) refl)

  -- no number stands after the last of the kind
  no_number : (at n : ℕ) → numbers_end k ≤ at → 1 ≤ at → at + n ≤ 18 → part at n b ≡ replicate n 0
  no_number at n e o h = filled_part b at n 0 (omega arith) (λ i l q. zero_there k i (get_or b i 0) (omega arith) (and_right (leb 2 i) (ltb i (numbers_end k)) (le-ltb i (numbers_end k) (omega arith))) (allowed_at i (omega arith) (omega arith)))

  no_field : (at n : ℕ) → numbers_end k ≤ at → 1 ≤ at → at + n ≤ 18 → number (replicate n 0) ≡ number (part at n b)
  no_field at n e o h = sym (ap number (no_number at n e o h))

  label_at : (i : ℕ) → 18 ≤ i → i < 24 → is_label_byte k (get_or b i 0) ≡ true
  label_at i l h = label_there k i (get_or b i 0) l (allowed_at i (omega arith) h)

  length_label : length (label_in b) ≡ 6
  length_label = length-take-le 6 (drop 18 b) (omega (arith, length-drop 18 b))

  label_blank : ((v : ℕ) → is_label_byte k v ≡ true → v ≡ 0x20) → blank_label ≡ label_in b
  label_blank s = sym (filled_part b 18 6 0x20 (omega arith) (λ i l q. s (get_or b i 0) (label_at i l (omega arith))))

  -- a record with no number but its ticket, and a blank label
  record_bytes-bare_job : numbers_end k ≤ 4 → ((v : ℕ) → is_label_byte k v ≡ true → v ≡ 0x20) → record_bytes (kind_byte k) (bare_job (job_in b).ticket) blank_label ≡ b
  record_bytes-bare_job e s =
      let arrival = no_field 4 6 e (omega arith) (omega arith) in
      let deadline = no_field 10 6 (omega arith) (omega arith) (omega arith) in
      let work = no_field 16 2 (omega arith) (omega arith) (omega arith) in
      let label = label_blank s in
      (λ i. record_bytes (kind_byte k) (record { ticket = (job_in b).ticket; arrival = arrival i; deadline = deadline i; work = work i }) (label i)) ∙ record_bytes-in

-- the content with its whole label
abbrev whole : Kind → List ℕ → Content
whole Offer b = offer (job_in b) (label_in b)
whole Strike b = strike (job_in b).ticket
whole Tick b = tick

trimmed_content-whole : (k : Kind) (b : List ℕ) → trimmed_content (whole k b) ≡ content_in k b
trimmed_content-whole Offer b = refl
trimmed_content-whole Strike b = refl
trimmed_content-whole Tick b = refl

module _ (b : List ℕ) (long : length b ≡ 24) (small : (i : ℕ) → get_or b i 0 < 256) where
  encoding_of-whole : (k : Kind) → get_or b 0 0 ≡ kind_byte k → first_forbidden k 1 (drop 1 b) ≡ None → encoding_of (whole k b) ≡ b
  encoding_of-whole Offer e f = record_bytes-in Offer b long small e f
  encoding_of-whole Strike e f = record_bytes-bare_job Strike b long small e f (omega arith) (λ v h. eqb-true v 0x20 h)
  encoding_of-whole Tick e f =
      let ticket = no_field Tick b long small e f 2 2 (omega arith) (omega arith) (omega arith) in
      (λ i. record_bytes (kind_byte Tick) (bare_job (ticket i)) blank_label) ∙ record_bytes-bare_job Tick b long small e f (omega arith) (λ v h. eqb-true v 0x20 h)

  is_label-whole : get_or b 0 0 ≡ kind_byte Offer → first_forbidden Offer 1 (drop 1 b) ≡ None → is_label (label_in b) ≡ true
  is_label-whole e f =
      let l = length_label Offer b long small e f in
      let at = λ (i : ℕ) (h : i < 6). get_or-take 6 (drop 18 b) i 0 h ∙ get_or-drop 18 b i 0 in
      let each = λ (i : ℕ) (h : i < length (label_in b)). ap is_printable (at i (omega (arith, l))) ∙ label_at Offer b long small e f (18 + i) (omega arith) (omega (arith, l)) in
      label_is (label_in b) true l (list_all-from_AllPass is_printable (label_in b) (All-from_get_or (λ v. is_printable v ≡ true) (label_in b) 0 each))

  IsWritable-whole : (k : Kind) → get_or b 0 0 ≡ kind_byte k → first_forbidden k 1 (drop 1 b) ≡ None → IsWritable (whole k b)
  IsWritable-whole Offer e f =
      let fits = part_fits Offer b long small e f in
      let label = is_label-whole e f in
      let arrival = fits 4 6 (omega arith) in
      let deadline = fits 10 6 (omega arith) in
      (record { ticket = fits 2 2 (omega arith); work = fits 16 2 (omega arith) }, grind (arith, nat_tests))
  IsWritable-whole Strike e f = (part_fits Strike b long small e f 2 2 (omega arith), refl)
  IsWritable-whole Tick e f = (tt, refl)

-- contents that the writer takes and that read back the same are the same
same_content : (x y : Content) → IsWritable x → IsWritable y → trimmed_content x ≡ trimmed_content y → x ≡ y
same_content (offer j l) (offer k m) p q h =
    let le = (label_parts l (offer_parts j l p.1).2).0 in
    let me = (label_parts m (offer_parts k m q.1).2).0 in
    let same : l ≡ m = same_from_trimmed l m (le ∙ sym me) cc in
    cc
same_content (offer j l) (strike u) p q h = cc
same_content (offer j l) tick p q h = cc
same_content (strike t) (offer k m) p q h = cc
same_content (strike t) (strike u) p q h = h
same_content (strike t) tick p q h = cc
same_content tick (offer k m) p q h = cc
same_content tick (strike u) p q h = cc
same_content tick tick p q h = refl

kind_byte_lem : (v : ℕ) (k : Kind) → kind_of v ≡ Some k → v ≡ kind_byte k
kind_byte_lem v Offer e = grind (arith, nat_tests)
kind_byte_lem v Strike e = grind (arith, nat_tests)
kind_byte_lem v Tick e = grind (arith, nat_tests)

-- what a reader says of 24 bytes of a kind, none of them forbidden
pub only_form : (k : Kind) (b : List ℕ) → length b ≡ 24 → ((i : ℕ) → get_or b i 0 < 256) → Some k ≡ kind_of (get_or b 0 0) → None ≡ first_forbidden k 1 (drop 1 b) → (c : Content) → c ≡ content_in k b → IsOnlyForm (Ok (Some c)) b
only_form k b long small e f c is =
    let kind = kind_byte_lem (get_or b 0 0) k (sym e) in
    let ready = IsWritable-whole b long small k kind (sym f) in
    let reads = trimmed_content-whole k b ∙ sym is in (
      (whole k b, (ready, reads)),
      λ x w h. ap encoding_of (same_content x (whole k b) w ready (h ∙ sym reads)) ∙ encoding_of-whole b long small k kind (sym f),
    )
