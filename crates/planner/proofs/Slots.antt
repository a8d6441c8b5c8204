-- What a put, a take and a replacement say of a queue where they succeed.
use Rattle.std.proofs.Common.{◌≡◌, ◌<◌, Bool, true, ltb, length, Option, None, Some, IsSome, MatchBool, subst, refl, arith}
use Rattle.std.proofs.lemmas.Bool.Decides.{nat_tests}
use Rattle.queue.specs.Slots.{Slots}
use Rattle.queue.specs.Says.{Added, Removed, PutLeaves, TakeLeaves, Refilled}

pub put_added : {X : Type 0} (x : X) (q r : Slots X) → q.count < length q.slots → PutLeaves x q r → Added x q r
put_added x q r room said =
    let e : ltb q.count (length q.slots) ≡ true = grind (arith, nat_tests) in
    subst (λ b. MatchBool b (Added x q r) (r ≡ q)) e said

pub take_some : {X : Type 0} (before : X → X → Bool) (q r : Slots X) (answer : Option X) → 0 < q.count → TakeLeaves before q r answer → IsSome answer
take_some before q r None some said = absurd (omega (arith, said.0))
take_some before q r (Some x) some said = refl

pub take_removed : {X : Type 0} (before : X → X → Bool) (q r : Slots X) (answer : Option X) (x : X) → TakeLeaves before q r answer → answer ≡ Some x → Removed before x q r
take_removed before q r answer x said is = subst (TakeLeaves before q r) is said

pub refill_added : {X : Type 0} (x : X) (q r : Slots X) (answer : Option X) (y : X) → Refilled x answer q r → answer ≡ Some y → Added x q r
refill_added x q r answer y said is = subst (λ a. Refilled x a q r) is said
