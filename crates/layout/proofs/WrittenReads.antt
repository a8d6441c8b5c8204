-- What is written reads back.
use Rattle.std.proofs.Common.{◌≡◌, ℕ, ◌+◌, ◌^◌, ◌<◌, ◌≤◌, true, List, [], ◌∷◌, ◌++◌, length, take, drop, None, Ok, Err, Result, sym, refl, ap, ◌∙◌, subst, arith}
use Rattle.std.proofs.lemmas.List.{take_all, take_at, drop_at, length-append}
use Rattle.std.proofs.lemmas.Bool.Decides.{nat_tests}
use Rattle.layout.specs.declared.fault.WriteFault.{WriteFault}
use Rattle.layout.specs.declared.job.Job.{Job}
use Rattle.layout.specs.declared.kind.Kind.TheVariants.{Offer}
use Rattle.layout.specs.Content.{Content, offer, strike, tick}
use Rattle.layout.specs.Label.{trimmed_label, is_label, is_all_printable}
use Rattle.layout.specs.Layout.{kind_byte, first_forbidden}
use Rattle.layout.specs.Reading.{content_in, content_unless_forbidden, parse_answer, some_content}
use Rattle.layout.specs.RoundTrip.{IsSizedContent, trimmed_content, IsWritable, ReadsAs}
use Rattle.layout.specs.Writing.{write_check, offer_check, encoding_of, encode_answer, write_answer, list_after_write, list_after}
use Rattle.layout.proofs.BigEndian.{number-bytes}
use Rattle.layout.proofs.Encodings.{job_in-record_bytes}
use Rattle.layout.proofs.Labels.{label_parts}
use Rattle.layout.proofs.Readings.{read_whole}

-- what an offer that is not refused has
pub offer_parts : (j : Job) (l : List ℕ) → offer_check j l ≡ Ok tt → (j.arrival < 2 ^ 48) × (j.deadline < 2 ^ 48) × (is_label l ≡ true)
offer_parts j l e = (grind (arith, nat_tests), grind (arith, nat_tests), grind (arith, nat_tests))

label_allowed : (l : List ℕ) (i : ℕ) → 18 ≤ i → is_all_printable l ≡ true → first_forbidden Offer i l ≡ None
label_allowed [] i h e = refl
label_allowed (b ∷ l) i h e = let rest = label_allowed l (i + 1) (omega arith) in grind (arith, nat_tests)

pub length-encoding_of : (x : Content) → write_check x ≡ Ok tt → length (encoding_of x) ≡ 24
length-encoding_of (offer j l) e = omega (arith, (label_parts l (offer_parts j l e).2).0)
length-encoding_of (strike t) e = refl
length-encoding_of tick e = refl

pub parse_answer-encoding_of : (p : ℕ) (x : Content) → IsWritable x → parse_answer p (encoding_of x) ≡ Ok (trimmed_content x)
parse_answer-encoding_of p (offer j l) h =
    let o = offer_parts j l h.1 in
    let k = label_parts l o.2 in
    ap (λ f. content_unless_forbidden p f (content_in Offer (encoding_of (offer j l)))) (label_allowed l 18 (omega arith) k.1)
    ∙ (λ i. Ok (offer (job_in-record_bytes (kind_byte Offer) j l h.0 o.0 o.1 i) (trimmed_label (take_all 6 l (omega (arith, k.0)) i))))
parse_answer-encoding_of p (strike t) h = ap (λ n. Ok (strike n)) (number-bytes 2 t h.0)
parse_answer-encoding_of p tick h = refl

pub written_reads : (x : Content) → IsWritable x → ReadsAs (encoding_of x) (trimmed_content x)
written_reads x h before after =
    let e = encoding_of x in
    let s = before ++ (e ++ after) in
    let p = length before in
    let n = length-encoding_of x h.1 in
    let here : take 24 (drop p s) ≡ e = ap (take 24) (drop_at before (e ++ after) p refl) ∙ take_at e after 24 n in
    read_whole s p (omega (arith, length-append before (e ++ after), length-append e after)) ∙ ap some_content (ap (parse_answer p) here ∙ parse_answer-encoding_of p x h)

encode_answer-ok : (r : Result (Unit {0}) WriteFault) (b bs : List ℕ) → Ok bs ≡ encode_answer r b → (r ≡ Ok tt) × (bs ≡ b)
encode_answer-ok (Ok u) b bs e = (refl, cc)
encode_answer-ok (Err f) b bs e = cc

-- a record whose bytes bs were made, written where there is room
module _ (x : Content) (s bs : List ℕ) (made : Ok bs ≡ encode_answer (write_check x) (encoding_of x)) (room : 24 ≤ length s) where
  pub write_accepts : Ok tt ≡ write_answer x s
  write_accepts = let e = encode_answer-ok (write_check x) (encoding_of x) bs made in grind (arith, nat_tests)

  pub write_fills : (ys : List ℕ) → ys ≡ bs → ys ++ drop 24 s ≡ list_after x s
  write_fills ys e = ap (λ b. b ++ drop 24 s) (e ∙ (encode_answer-ok (write_check x) (encoding_of x) bs made).1) ∙ ap (λ r. list_after_write r (encoding_of x) s) write_accepts

  pub write_reads : (ys : List ℕ) → ys ≡ bs → IsSizedContent x → ReadsAs (take 24 (ys ++ drop 24 s)) (trimmed_content x)
  write_reads ys e sized =
      let q = encode_answer-ok (write_check x) (encoding_of x) bs made in
      let whole : take 24 (ys ++ drop 24 s) ≡ encoding_of x = ap (λ b. take 24 (b ++ drop 24 s)) (e ∙ q.1) ∙ take_at (encoding_of x) (drop 24 s) 24 (length-encoding_of x q.0) in
      subst (λ b. ReadsAs b (trimmed_content x)) (sym whole) (written_reads x (sized, q.0))
