-- What the contract of `price` says in document 01's words, that it allows one answer, and that a fare is at least 1.
use Prim.Native.Nat.{ℕ, ◌*◌}
use Rattle.std.proofs.Common.{Ok, Err}
use mathlib.Core.Path.{◌≡◌, refl, sym, ap, ◌∙◌}
use mathlib.Core.List.{List}
use mathlib.Core.Logic.{⊎_elim, ◌↔◌}
use native.Mathlib.Omega.{arith}
use Rattle.outline.specs.declared.Leg.{Leg}
use Rattle.outline.specs.declared.Answer.{Answer}
use Rattle.outline.specs.declared.Refusal.{Refusal}
use Rattle.outline.specs.declared.Refusal.TheVariants.{BadRide}
use Rattle.outline.specs.Numbers.{most_fare, most_rides}
use Rattle.outline.specs.Tests.{Within}
use Rattle.outline.specs.Refusals.{◌and_then◌, Judged}
use Rattle.outline.specs.Book.{network}
use Rattle.outline.specs.Valid.{ValidBook}
use Rattle.outline.specs.Judging.{book_check}
use Rattle.outline.specs.Routes.{Admissible, bytes_of, route_of, route_check}
use Rattle.outline.specs.Price.{earn_on, runs_of, fare_with, fare_of, Priced, answer_of, refused_answer, answer_to, price_of}
use Rattle.laws.proofs.Judging.{book_good}
use Rattle.laws.proofs.Given.{route_of_bytes}
use Rattle.laws.proofs.GivenRoutes.{route_good, BadAt, bad_ride, route_judged}
use Rattle.laws.proofs.Entries.{sum-within}
use Rattle.choice.proofs.Totals.{total_below}
use Rattle.choice.proofs.Priced.{runs_best, priced_is, frugal}

-- r is the answer to a book and the bytes of a route
pub record Answered (b bytes : List ℕ) (r : Answer) : Type 0 where
  pub book : (x : Refusal) → book_check b ≡ Err x → r ≡ refused_answer x
  pub bad : ValidBook b → (k : ℕ) → BadAt (network b) bytes k → r ≡ refused_answer (BadRide k)
  pub priced : ValidBook b → (route : List Leg) → bytes_of route ≡ bytes → Admissible (network b) route → Priced (network b) route r

module _ (b bytes : List ℕ) where
  price_refused_book : (x : Refusal) → book_check b ≡ Err x → price_of b bytes ≡ refused_answer x
  unfolding price_of ◌and_then◌ answer_to
  price_refused_book x e = rw e

  price_refused_route : (x : Refusal) → book_check b ≡ Ok tt → route_check (network b) bytes ≡ Err x → price_of b bytes ≡ refused_answer x
  unfolding price_of ◌and_then◌ answer_to
  price_refused_route x g e = rw (g, e)

  price_good : book_check b ≡ Ok tt → route_check (network b) bytes ≡ Ok tt → price_of b bytes ≡ answer_of (network b) (route_of bytes)
  unfolding price_of ◌and_then◌ answer_to
  price_good g e = rw (g, e)

  -- the contract of `price`, and what it says
  pub price_is : (r : Answer) → (r ≡ price_of b bytes) ↔ Answered b bytes r
  price_is r = (tells, λ a. holds a (book_check b) refl)
    where
      tells : r ≡ price_of b bytes → Answered b bytes r
      tells e = record {
        book = λ x h. e ∙ price_refused_book x h;
        bad = λ v k h. e ∙ price_refused_route (BadRide k) ((book_good b).1 v) ((bad_ride (network b) bytes k).1 h);
        priced = λ v route is a.
            let good = (route_good (network b) bytes).1 (record { route = route; is = is; admissible = a }) in
            let same : route_of bytes ≡ route = ap route_of (sym is) ∙ route_of_bytes route in
            (priced_is (network b) route r).1 (e ∙ price_good ((book_good b).1 v) good ∙ ap (answer_of (network b)) same);
      }

      judged : Answered b bytes r → book_check b ≡ Ok tt → r ≡ price_of b bytes
      judged a g =
          let v = (book_good b).0 g in
          ⊎_elim
          (λ h.
          let same : route_of bytes ≡ h.route = ap route_of (sym h.is) ∙ route_of_bytes h.route in
          (priced_is (network b) h.route r).0 (a.priced v h.route h.is h.admissible)
          ∙ sym (price_good g ((route_good (network b) bytes).1 h) ∙ ap (answer_of (network b)) same))
          (λ h. a.bad v h.0 ((bad_ride (network b) bytes h.0).0 h.1) ∙ sym (price_refused_route (BadRide h.0) g h.1))
          (route_judged (network b) bytes)

      holds : Answered b bytes r → (j : Judged) → book_check b ≡ j → r ≡ price_of b bytes
      holds a (Ok _) e = judged a e
      holds a (Err x) e = a.book x e ∙ sym (price_refused_book x e)

  -- it allows one answer
  pub one_answer : (r q : Answer) → Answered b bytes r → Answered b bytes q → r ≡ q
  one_answer r q a c = (price_is r).1 a ∙ sym ((price_is q).1 c)

-- a fare is at least 1
pub fare_within : (b : List ℕ) → ValidBook b → (route : List Leg) → Admissible (network b) route → Within 1 (fare_of (network b) route) (most_rides * most_fare)
unfolding fare_of fare_with
fare_within b v route a =
    let sum = sum-within b v route a.rides in
    let less =
    total_below (network b) route (earn_on (network b) route) (frugal (network b) route) (network b).rules (runs_of (network b) route)
    (runs_best (network b) route).apart (omega (arith, sum.from, a.few.from)) in
    record { from = omega arith; to = omega (arith, sum.to, a.few.to) }
