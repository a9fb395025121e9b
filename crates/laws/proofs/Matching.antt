-- A rule earns its amount on a run exactly where it matches the run, said fact by fact; and that is less than the run costs.
use Prim.Native.Nat.{ℕ, ◌-◌, ◌<◌}
use mathlib.Core.Path.{◌≡◌, refl, sym, ap, ◌∙◌}
use mathlib.Core.Bool.{Bool, true, false}
use mathlib.Core.List.{List}
use mathlib.Core.Logic.{◌↔◌}
use native.Mathlib.Omega.{arith}
use lib.ListN.{length}
use lib.Dec.{eqb}
use borrow.Author.Tests.{ltb-true, lt-ltb, eqb-true, eq-eqb}
use Rattle.outline.specs.declared.Leg.{Leg}
use Rattle.std.specs.Prelude.{Option, Some, None, Result, Ok}
use Rattle.outline.specs.declared.Reason.{Reason}
use Rattle.outline.specs.declared.Rule.{Rule}
use Rattle.outline.specs.Fares.{company_at, in_map}
use Rattle.outline.specs.Network.{Network}
use Rattle.outline.specs.Routes.{ride_at, link_after}
use Rattle.outline.specs.Matching.{sum_of, same_companies, permits, permitted, unless, reason_of, saving_of, earns}
use Rattle.laws.proofs.Tests.{true_not_false, all_true, all_holds}

-- the link after ride i is one that the rule permits
pub record Permitted (N : Network) (rule : Rule) (run : List Leg) (i : ℕ) : Type 0 where
  pub link : ℕ
  pub walked : link_after N run i ≡ Some link
  pub permits : in_map rule.permitted link ≡ true

-- "A rule matches a run when .."
pub record Matches (N : Network) (rule : Rule) (run : List Leg) : Type 0 where
  pub rides : rule.rides ≡ length run  -- "the run has m rides"
  pub companies : (i : ℕ) → i < length run → (ride_at run i).company ≡ company_at rule i  -- "its companies are the rule's in the order written"
  pub boarding : in_map rule.boarding (ride_at run 0).boarding ≡ true  -- "the first boarding station .. in the maps"
  pub alighting : in_map rule.alighting (ride_at run (length run - 1)).alighting ≡ true  -- "and last alighting station"
  pub changes : (i : ℕ) → i < length run - 1 → Permitted N rule run i  -- "every change in it uses a permitted link"
  pub dearer : rule.amount < sum_of N run  -- "the sum of the run's fares is greater than the amount"

permits_is : (N : Network) (rule : Rule) (run : List Leg) (i : ℕ) → (permits rule (link_after N run i) ≡ true) ↔ Permitted N rule run i
unfolding permits
permits_is N rule run i = (go (link_after N run i) refl, λ p. rw p.walked p.permits)
  where
    go : (j : Option ℕ) → link_after N run i ≡ j → permits rule j ≡ true → Permitted N rule run i
    go (Some k) e t = record { link = k; walked = e; permits = t }
    go None e t = absurd (true_not_false (sym t))

-- ---- the tests, one after the other

nothing_earned : (y : ℕ) → None ≡ Some y → ⊥
nothing_earned y e = let z : ◌≡◌ {A = ℕ} 0 1 = cc in omega arith

-- where something is earned, a test that stands before it holds
passed : (t : Bool) (reason : Reason) (next : Result ℕ Reason) (y : ℕ) → saving_of (unless t reason next) ≡ Some y → (t ≡ true) × (saving_of next ≡ Some y)
unfolding unless
passed true reason next y e = (refl, e)
passed false reason next y e = absurd (nothing_earned y e)

passes : (t : Bool) (reason : Reason) (next : Result ℕ Reason) → t ≡ true → unless t reason next ≡ next
unfolding unless
passes t reason next e = rw e

same_yen : {x y : ℕ} → Some x ≡ Some y → x ≡ y
same_yen e = cc

pub earned_is : (N : Network) (rule : Rule) (run : List Leg) (y : ℕ) → (saving_of (reason_of N rule run) ≡ Some y) ↔ (Matches N rule run × (rule.amount ≡ y))
unfolding reason_of same_companies permitted
earned_is N rule run y = (tells, λ m. ap saving_of (holds m.0) ∙ ap Some m.1)
  where
    tells : saving_of (reason_of N rule run) ≡ Some y → Matches N rule run × (rule.amount ≡ y)
    tells e =
        let s1 = passed _ _ _ y e in
        let s2 = passed _ _ _ y s1.1 in
        let s3 = passed _ _ _ y s2.1 in
        let s4 = passed _ _ _ y s3.1 in
        let s5 = passed _ _ _ y s4.1 in
        let s6 = passed _ _ _ y s5.1 in (
          record {
            rides = eqb-true _ _ s1.0;
            companies = λ i h. eqb-true _ _ (all_true (λ (i : ℕ). eqb (ride_at run i).company (company_at rule i)) _ s2.0 i h);
            boarding = s3.0;
            alighting = s4.0;
            changes = λ i h. (permits_is N rule run i).0 (all_true (λ (i : ℕ). permits rule (link_after N run i)) _ s5.0 i h);
            dearer = ltb-true _ _ s6.0;
          },
          same_yen s6.1,
        )

    holds : Matches N rule run → reason_of N rule run ≡ Ok rule.amount
    holds m =
        passes _ _ _ (eq-eqb _ _ m.rides)
        ∙ passes _ _ _ (all_holds (λ (i : ℕ). eqb (ride_at run i).company (company_at rule i)) _ (λ i h. eq-eqb _ _ (m.companies i h)))
        ∙ passes _ _ _ m.boarding
        ∙ passes _ _ _ m.alighting
        ∙ passes _ _ _ (all_holds (λ (i : ℕ). permits rule (link_after N run i)) _ (λ i h. (permits_is N rule run i).1 (m.changes i h)))
        ∙ passes _ _ _ (lt-ltb _ _ m.dearer)

-- what a rule earns on a run is less than what the run costs
pub earns_less : (N : Network) (run : List Leg) (k y : ℕ) → earns N run k ≡ Some y → y < sum_of N run
unfolding earns
earns_less N run k y e = let m = (earned_is N (N.rule k) run y).0 e in let amount = m.1 in let dearer = m.0.dearer in omega arith
