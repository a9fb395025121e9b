-- Laws of `Improves`: what is held after one part of a search and then another, after an offer, and round a loop.
use Prim.Native.Nat.{ℕ, ◌+◌, ◌≤◌, ◌<◌}
use mathlib.Core.Path.{◌≡◌, sym, subst, ◌∙◌}
use mathlib.Core.Logic.{◌⊎◌, inl, inr, ⊎_elim}
use mathlib.Core.List.{List}
use native.Mathlib.Omega.{arith}
use Rattle.outline.specs.declared.Leg.{Leg}
use Rattle.outline.specs.Network.{Network}
use Rattle.outline.specs.Price.{fare_of}
use Rattle.outline.specs.Questions.{NoLater}
use Rattle.routes.specs.Held.{rides_of, Held}
use Rattle.routes.specs.declared.Route.{Route}
use Rattle.laws.specs.Rides.{AllGood}
use Rattle.cheapest.specs.Onward.{SomeBelow}
use native.Mathlib.Nat.{eq-or-lt_of_le}
use Rattle.cheapest.proofs.Earlier.{earlier_same, earlier_then}
use Rattle.std.specs.Prelude.{Option, Some, None, IfSome, IsSomeAnd}
use Rattle.best.specs.declared.Fared.{Fared}
use Rattle.best.specs.declared.Best.{Best}
use Rattle.best.specs.Kept.{Priced, Sound, Improves, NoLonger}

-- nothing has P
pub improves_none : (N : Network) (b : Best) (P : List Leg → Type 0) → Sound N b → ((R : List Leg) → P R → ⊥) → Improves N b b P
improves_none N b P s none = record {
  sound = s;
  origin = λ R h. inl h;
  keeps = λ R k. k;
  beats = λ R p. absurd (none R p);
}

-- first those of P, then those of Q, are those of S
pub improves_then : (N : Network) {b c d : Best} {P Q : List Leg → Type 0} (S : List Leg → Type 0) → Improves N b c P → Improves N c d Q
    → ((R : List Leg) → P R → S R) → ((R : List Leg) → Q R → S R) → ((R : List Leg) → S R → P R ⊎ Q R) → Improves N b d S
improves_then N S i j p q s = record {
  sound = j.sound;
  origin = λ R h. ⊎_elim (λ g. ⊎_elim (λ f. inl f) (λ x. inr (p R x)) (i.origin R g)) (λ x. inr (q R x)) (j.origin R h);
  keeps = λ R k. j.keeps R (i.keeps R k);
  beats = λ R x. ⊎_elim (λ y. j.keeps R (i.beats R y)) (λ y. j.beats R y) (s R x);
}

pub improves_same : (N : Network) {b c : Best} {P : List Leg → Type 0} (S : List Leg → Type 0) → Improves N b c P
    → ((R : List Leg) → P R → S R) → ((R : List Leg) → S R → P R) → Improves N b c S
improves_same N S i p s = record {
  sound = i.sound;
  origin = λ R h. ⊎_elim (λ f. inl f) (λ x. inr (p R x)) (i.origin R h);
  keeps = i.keeps;
  beats = λ R x. i.beats R (s R x);
}

-- ---- an offer

-- what is held, where something is
pub held_here : (N : Network) (b : Best) (p : Fared) → b.found ≡ Some p → Sound N b → Priced N p
held_here N b p f s = rw f at s

-- a route is offered, and what is held stays: it comes no later
pub held_stays : (N : Network) (b : Best) (p : Fared) (r : Route) → Sound N b → b.found ≡ Some p → NoLater N (rides_of p.route) (rides_of r) → Improves N b b (λ R. rides_of r ≡ R)
held_stays N b p r s f l = record {
  sound = s;
  origin = λ R h. inl h;
  keeps = λ R k. k;
  beats = λ R e. rw f (subst (NoLater N (rides_of p.route)) e l);
}

-- a route is offered, and comes no later than what is held
pub offer_taken : (N : Network) (b : Best) (f : ℕ) (r : Route) → Held N r → AllGood N (rides_of r) → f ≡ fare_of N (rides_of r)
    → IfSome b.found (λ p. NoLater N (rides_of r) (rides_of p.route)) → Improves N b (record { found = Some (record { fare = f; route = r }) }) (λ R. rides_of r ≡ R)
offer_taken N b f r h g e l = record {
  sound = record { held = h; good = g; fare = e };
  origin = λ R h. inr h;
  keeps = λ R k. earlier b.found R l k;
  beats = λ R e. subst (NoLater N (rides_of r)) e (earlier_same N (rides_of r));
}
  where
    earlier : (o : Option Fared) (R : List Leg) → IfSome o (λ p. NoLater N (rides_of r) (rides_of p.route)) → IsSomeAnd o (λ p. NoLater N (rides_of p.route) R) → NoLater N (rides_of r) R
    earlier None R l k = absurd k
    earlier (Some p) R l k = earlier_then N (rides_of r) (rides_of p.route) R l k

pub by_fare : (N : Network) (s t : List Leg) (f g : ℕ) → f ≡ fare_of N s → g ≡ fare_of N t → f < g → NoLater N s t
by_fare N s t f g e h l = inl (omega arith)

pub by_rides : (N : Network) (s t : List Leg) (f g : ℕ) → f ≡ fare_of N s → g ≡ fare_of N t → f ≡ g → NoLonger s t → NoLater N s t
by_rides N s t f g e h same l = inr (sym e ∙ same ∙ h, l)

-- ---- a loop whose turn n goes through those of Q n

pub loop_none : (N : Network) (b : Best) (Q : ℕ → List Leg → Type 0) → Sound N b → Improves N b b (λ R. SomeBelow 0 (λ i. Q i R))
loop_none N b Q s = improves_none N b (λ R. SomeBelow 0 (λ i. Q i R)) s (λ R h. omega (arith, h.below))

some_up : (n : ℕ) (Q : ℕ → Type 0) → SomeBelow n Q → SomeBelow (n + 1) Q
some_up n Q s = record { at = s.at; below = omega (arith, s.below); holds = s.holds }

some_here : (n : ℕ) (Q : ℕ → Type 0) → Q n → SomeBelow (n + 1) Q
some_here n Q q = record { at = n; below = omega arith; holds = q }

some_down : (n : ℕ) (Q : ℕ → Type 0) → SomeBelow (n + 1) Q → SomeBelow n Q ⊎ Q n
some_down n Q s =
    let le : s.at ≤ n = omega (arith, s.below) in
    ⊎_elim (λ e. inr (subst Q e s.holds)) (λ l. inl (record { at = s.at; below = l; holds = s.holds })) (eq-or-lt_of_le le)

pub loop_turn : (N : Network) {b c d : Best} (Q : ℕ → List Leg → Type 0) (n : ℕ) → Improves N b c (λ R. SomeBelow n (λ i. Q i R)) → Improves N c d (Q n)
    → Improves N b d (λ R. SomeBelow (n + 1) (λ i. Q i R))
loop_turn N Q n i j = improves_then N (λ R. SomeBelow (n + 1) (λ i. Q i R)) i j (λ R x. some_up n (λ i. Q i R) x) (λ R x. some_here n (λ i. Q i R) x) (λ R x. some_down n (λ i. Q i R) x)

-- a dearer route is offered
pub stays_cheaper : (N : Network) (b : Best) (p : Fared) (r : Route) (f : ℕ) → Sound N b → b.found ≡ Some p → f ≡ fare_of N (rides_of r) → p.fare < f → Improves N b b (λ R. rides_of r ≡ R)
stays_cheaper N b p r f s h e l = held_stays N b p r s h (by_fare N _ _ _ _ (held_here N b p h s).fare e l)
