-- Which refusal is named: when a demand, one check after another and the first of many are refused with a given refusal, each both ways.
use Prim.Native.Nat.{ℕ, zero, suc, ◌<◌}
use Rattle.std.proofs.Common.{Ok, Err}
use mathlib.Core.Path.{◌≡◌, refl, sym, ap, ◌∙◌}
use mathlib.Core.Bool.{Bool, true, false}
use mathlib.Core.Logic.{◌⊎◌, inl, inr, ⊎_elim, ◌↔◌}
use native.Mathlib.Omega.{arith}
use Rattle.outline.specs.declared.Refusal.{Refusal}
use Rattle.outline.specs.Tests.{both}
use Rattle.outline.specs.Refusals.{demand, ◌and_then◌, first_below, place_of, Judged}
use Rattle.laws.proofs.Tests.{fails, true_not_false}
use Rattle.laws.proofs.Firsts.{refused_not_good, demand_holds, demand_fails, then_next, then_refused, first_good, first_holds, first_is}

-- k is the first of n numbers that has not P
pub record FirstBad (P : ℕ → Type 0) (n k : ℕ) : Type 0 where
  pub below : k < n
  pub before : (j : ℕ) → j < k → P j
  pub bad : P k → ⊥

-- ---- the three laws

pub same_refusal : {x y : Refusal} → ◌≡◌ {A = Judged} (Err x) (Err y) → x ≡ y
same_refusal e = cc

-- P is what the test tests
pub demand_refused : {P : Type 0} (t : Bool) (x : Refusal) (next : Judged) (y : Refusal) → (t ≡ true) ↔ P
    → (demand t x next ≡ Err y) ↔ (((P → ⊥) × (x ≡ y)) ⊎ (P × (next ≡ Err y)))
demand_refused {P} t x next y p = (go t refl, ⊎_elim (λ f. demand_fails t x next (fails (λ e. f.0 (p.0 e))) ∙ ap Err f.1) (λ h. demand_holds t x next (p.1 h.0) ∙ h.1))
  where
    go : (s : Bool) → t ≡ s → demand t x next ≡ Err y → ((P → ⊥) × (x ≡ y)) ⊎ (P × (next ≡ Err y))
    go true q e = inr (p.0 q, sym (demand_holds t x next q) ∙ e)
    go false q e = inl (λ h. true_not_false (sym (p.1 h) ∙ q), same_refusal (sym (demand_fails t x next q) ∙ e))

-- two demands, one after the other, of one refusal
pub demand_both : (t u : Bool) (x : Refusal) (next : Judged) → demand t x (demand u x next) ≡ demand (both t u) x next
unfolding demand both
demand_both true u x next = refl
demand_both false u x next = refl

-- P is what the first check finds good
pub then_names : {P : Type 0} (a next : Judged) (y : Refusal) → (a ≡ Ok tt) ↔ P
    → (a and_then next ≡ Err y) ↔ ((a ≡ Err y) ⊎ (P × (next ≡ Err y)))
then_names {P} a next y p = (go a refl, ⊎_elim (λ e. then_refused a next y e) (λ h. then_next a next (p.1 h.0) ∙ h.1))
  where
    go : (s : Judged) → a ≡ s → a and_then next ≡ Err y → (a ≡ Err y) ⊎ (P × (next ≡ Err y))
    go (Ok _) q e = inr (p.0 q, sym (then_next a next q) ∙ e)
    go (Err x) q e = inl (q ∙ sym (then_refused a next x q) ∙ e)

pub first_names : (f : ℕ → Judged) (n : ℕ) (y : Refusal)
    → (first_below f n ≡ Err y) ↔ ((k : ℕ) × (k < n) × ((j : ℕ) → j < k → f j ≡ Ok tt) × (f k ≡ Err y))
unfolding first_below
first_names f n y = (find n, λ h. first_is f n h.0 y (first_holds f h.0 h.2) h.1 h.3)
  where
    step : (n : ℕ) → (first_below f n ≡ Err y → (k : ℕ) × (k < n) × ((j : ℕ) → j < k → f j ≡ Ok tt) × (f k ≡ Err y))
        → (first_below f n ≡ Err y) ⊎ ((first_below f n ≡ Ok tt) × (f n ≡ Err y))
        → (k : ℕ) × (k < suc n) × ((j : ℕ) → j < k → f j ≡ Ok tt) × (f k ≡ Err y)
    step n ih (inl e) = let s = ih e in (s.0, omega arith, s.2, s.3)
    step n ih (inr h) = (n, omega arith, first_good f n h.0, h.1)

    find : (n : ℕ) → first_below f n ≡ Err y → (k : ℕ) × (k < n) × ((j : ℕ) → j < k → f j ≡ Ok tt) × (f k ≡ Err y)
    find zero e = absurd (refused_not_good (sym e))
    find (suc n) e = step n (find n) ((then_names (first_below f n) (f n) y (λ g. g, λ g. g)).0 e)

-- ---- which refusals a check can name

abbrev pub Names : (Refusal → Type 0) → Judged → Type 0
Names Q a = (x : Refusal) → a ≡ Err x → Q x

pub names_good : (Q : Refusal → Type 0) → Names Q (Ok tt)
names_good Q x e = absurd (refused_not_good (sym e))

pub names_demand : (Q : Refusal → Type 0) (t : Bool) (x : Refusal) (next : Judged) → Q x → Names Q next → Names Q (demand t x next)
unfolding demand
names_demand Q true x next q r y e = r y e
names_demand Q false x next q r y e = rw (← same_refusal e) q

pub names_then : (Q : Refusal → Type 0) (a next : Judged) → Names Q a → Names Q next → Names Q (a and_then next)
unfolding ◌and_then◌
names_then Q (Ok _) next p r = r
names_then Q (Err x) next p r = p

pub names_first : (Q : Refusal → Type 0) (f : ℕ → Judged) (n : ℕ) → ((k : ℕ) → Names Q (f k)) → Names Q (first_below f n)
unfolding first_below
names_first Q f zero p = names_good Q
names_first Q f (suc n) p = names_then Q (first_below f n) (f n) (names_first Q f n p) (p n)

-- a check that names x alone is refused with x exactly where it does not find P
pub refused_with : {P : Type 0} (a : Judged) (x : Refusal) → Names (λ y. y ≡ x) a → (a ≡ Ok tt) ↔ P → (a ≡ Err x) ↔ (P → ⊥)
refused_with {P} a x o p = (λ e h. refused_not_good (sym e ∙ p.1 h), λ n. go a refl n)
  where
    go : (s : Judged) → a ≡ s → (P → ⊥) → a ≡ Err x
    go (Ok _) q n = absurd (n (p.0 q))
    go (Err y) q n = q ∙ ap Err (o y q)

-- what comes after a demand that does not name y, and a demand of y before what does not
pub demand_passes : {P : Type 0} (t : Bool) (x : Refusal) (next : Judged) (y : Refusal) → (x ≡ y → ⊥) → (t ≡ true) ↔ P
    → (demand t x next ≡ Err y) ↔ (P × (next ≡ Err y))
demand_passes t x next y n p =
    let law = demand_refused t x next y p in
    (λ e. ⊎_elim (λ f. absurd (n f.1)) (λ h. h) (law.0 e), λ h. law.1 (inr h))

pub demand_stays : {P : Type 0} (t : Bool) (y : Refusal) (next : Judged) → (next ≡ Err y → ⊥) → (t ≡ true) ↔ P
    → (demand t y next ≡ Err y) ↔ (P → ⊥)
demand_stays t y next n p =
    let law = demand_refused t y next y p in
    (λ e. ⊎_elim (λ f. f.0) (λ h. absurd (n h.1)) (law.0 e), λ f. law.1 (inl (f, refl)))

-- what comes after a check that does not name y
pub then_passes : {P : Type 0} (a next : Judged) (y : Refusal) → (a ≡ Err y → ⊥) → (a ≡ Ok tt) ↔ P
    → (a and_then next ≡ Err y) ↔ (P × (next ≡ Err y))
then_passes a next y n p =
    let law = then_names a next y p in
    (λ e. ⊎_elim (λ r. absurd (n r)) (λ h. h) (law.0 e), λ h. law.1 (inr h))

-- what stands before a check that does not name y
pub then_stays : (a next : Judged) (y : Refusal) → (next ≡ Err y → ⊥) → (a and_then next ≡ Err y) ↔ (a ≡ Err y)
then_stays a next y n =
    let law = then_names a next y (λ g. g, λ g. g) in
    (λ e. ⊎_elim (λ r. r) (λ h. absurd (n h.1)) (law.0 e), λ r. law.1 (inl r))

-- the first of many, each of which names its own number as the place
pub first_at_lem : (f : ℕ → Judged) (n : ℕ) → ((k : ℕ) → Names (λ x. place_of x ≡ k) (f k)) → (y : Refusal)
    → (first_below f n ≡ Err y) ↔ ((place_of y < n) × ((j : ℕ) → j < place_of y → f j ≡ Ok tt) × (f (place_of y) ≡ Err y))
first_at_lem f n p y = (λ e. here ((first_names f n y).0 e), λ h. (first_names f n y).1 (place_of y, h.0, h.1, h.2))
  where
    here : (k : ℕ) × (k < n) × ((j : ℕ) → j < k → f j ≡ Ok tt) × (f k ≡ Err y)
        → (place_of y < n) × ((j : ℕ) → j < place_of y → f j ≡ Ok tt) × (f (place_of y) ≡ Err y)
    here h = rw (p h.0 y h.3) (h.1, h.2, h.3)

-- the first of many where check k names x k alone, whose place is k: the first that does not find P
pub first_refused_with : (P : ℕ → Type 0) (f : ℕ → Judged) (x : ℕ → Refusal) (n k : ℕ) → ((j : ℕ) → Names (λ y. y ≡ x j) (f j))
    → ((j : ℕ) → place_of (x j) ≡ j) → ((j : ℕ) → (f j ≡ Ok tt) ↔ P j) → (first_below f n ≡ Err (x k)) ↔ FirstBad P n k
first_refused_with P f x n k o q p = (found, first)
  where
    found : first_below f n ≡ Err (x k) → FirstBad P n k
    found e =
        let h = rw q at ((first_at_lem f n (λ j y r. ap place_of (o j y r) ∙ q j) (x k)).0 e) in
        record { below = h.0; before = λ j l. (p j).0 (h.1 j l); bad = (refused_with (f k) (x k) (o k) (p k)).0 h.2 }

    first : FirstBad P n k → first_below f n ≡ Err (x k)
    first h = (first_names f n (x k)).1 (k, h.below, λ j l. (p j).1 (h.before j l), (refused_with (f k) (x k) (o k) (p k)).1 h.bad)
