-- A selection as the code holds it: with a run in front, and rather than another.
use Prim.Native.Nat.{ℕ, zero, suc, ◌+◌, ◌≤◌, ◌<◌}
use mathlib.Core.Path.{◌≡◌, refl, sym, ap, subst, ◌∙◌}
use mathlib.Core.Bool.{Bool, true, false}
use mathlib.Core.List.{List, [], ◌∷◌}
use native.Mathlib.Omega.{arith}
use lib.ListN.{length, take}
use lib.Seq.{length-take-le}
use Rattle.outline.specs.declared.Run.{Run}
use Rattle.outline.specs.declared.Payer.{Payer}
use Rattle.std.specs.Prelude.{Option, Some, None}
use Rattle.outline.specs.Tests.{choose}
use Rattle.outline.specs.Selections.{Earn, yen, total}
use Rattle.outline.specs.Choosing.{best_rule, rather, with_run, or_run, best_from}
use Rattle.choice.proofs.Rules.{Most, Right, rule_right, yen_is}
use Rattle.selection.specs.declared.Selection.{Selection}
use Rattle.selection.specs.Chosen.{runs_in, rather_than, Sound, Chosen}

runs_after : (n : ℕ) (p a b : Run) → n ≤ 1 → take (n + 1) (p ∷ a ∷ []) ≡ p ∷ take n (a ∷ b ∷ [])
runs_after zero p a b h = refl
runs_after (suc zero) p a b h = refl
runs_after (suc (suc n)) p a b h = absurd (omega arith)

chosen_same : (s t : Selection) (a b c : Bool) → runs_in (choose a t (choose b s (choose c s t))) ≡ choose a (runs_in t) (choose b (runs_in s) (choose c (runs_in s) (runs_in t)))
unfolding choose
chosen_same s t true b c = refl
chosen_same s t false true c = refl
chosen_same s t false false true = refl
chosen_same s t false false false = refl

chosen_one : (P : Selection → Type 0) (s t : Selection) (a b c : Bool) → P s → P t → P (choose a t (choose b s (choose c s t)))
unfolding choose
chosen_one P s t true b c p q = q
chosen_one P s t false true c p q = p
chosen_one P s t false false true p q = p
chosen_one P s t false false false p q = q

runs_length : (earn : Earn) (n : ℕ) (s : Selection) → Sound earn n s → length (runs_in s) ≡ s.count
runs_length earn n s h = length-take-le s.count (s.one ∷ s.two ∷ []) h.two

held_is : (earn : Earn) (m n : ℕ) (s t : Selection) → Sound earn m s → Sound earn n t → runs_in (rather_than s t) ≡ rather earn (runs_in s) (runs_in t)
unfolding rather rather_than
held_is earn m n s t h k =
    rw (← h.earned, ← k.earned, runs_length earn m s h, runs_length earn n t k) (chosen_same s t _ _ _)

held_one : (P : Selection → Type 0) (s t : Selection) → P s → P t → P (rather_than s t)
unfolding rather_than
held_one P s t p q = chosen_one P s t _ _ _ p q

module _ (earn : Earn) (rules at m : ℕ) (rest held : Selection) (rs : Sound earn 1 rest) (hs : Sound earn 2 held) (b : Option Payer) (best : b ≡ best_rule (earn at m) rules) where
  pub none_pays : b ≡ None → Chosen earn (held.count + rest.count + 1) (or_run earn rules at m (runs_in rest) (runs_in held)) held
  unfolding or_run with_run
  none_pays e = record {
    sound = record { earned = hs.earned; small = hs.small; few = omega arith; two = hs.two };
    is = ap (with_run earn at m (runs_in rest) (runs_in held)) (sym e ∙ best);
  }

  module _ (p : Payer) (e : b ≡ Some p) where
    front : Selection
    front = record { one = record { first = at; rides = m; rule = p.rule }; two = rest.one; count = rest.count + 1; total = p.yen + rest.total }

    right : Most (earn at m) rules p.rule p.yen
    right = subst (Right (earn at m) rules) (sym best ∙ e) (rule_right (earn at m) rules)

    front_runs : runs_in front ≡ record { first = at; rides = m; rule = p.rule } ∷ runs_in rest
    unfolding front
    front_runs = runs_after rest.count _ rest.one rest.two rs.few

    front_sound : p.yen ≤ 65535 → Sound earn (rest.count + 1) front
    unfolding front total
    front_sound small = record {
      earned = (let a = yen_is (earn at m p.rule) p.yen right.earned in let t = rs.earned in let z : p.yen + rest.total ≡ yen (earn at m p.rule) + total earn (runs_in rest) = omega arith in z) ∙ ap (total earn) (sym front_runs);
      small = omega (arith, rs.small);
      few = omega arith;
      two = omega (arith, rs.few);
    }

    pub one_pays : (x : ℕ) (f r : Selection) → x ≡ p.yen → x < 65536
        → f ≡ record { one = record { first = at; rides = m; rule = p.rule }; two = rest.one; count = rest.count + 1; total = x + rest.total } → r ≡ rather_than f held
        → Chosen earn (held.count + rest.count + 1) (or_run earn rules at m (runs_in rest) (runs_in held)) r
    unfolding front or_run with_run
    one_pays x f r same small made g =
        let sound = front_sound (omega arith) in
        let is_front : f ≡ front = made ∙ ap (λ (z : ℕ). record { one = record { first = at; rides = m; rule = p.rule }; two = rest.one; count = rest.count + 1; total = z + rest.total }) same in
        subst (Chosen earn (held.count + rest.count + 1) (or_run earn rules at m (runs_in rest) (runs_in held))) (sym (g ∙ ap (λ (z : Selection). rather_than z held) is_front)) (record {
          sound = held_one (Sound earn (held.count + rest.count + 1)) front held
              (record { earned = sound.earned; small = sound.small; few = omega (arith, sound.few); two = sound.two })
              (record { earned = hs.earned; small = hs.small; few = omega arith; two = hs.two });
          is = held_is earn _ _ front held sound hs ∙ ap (λ (z : List Run). rather earn z (runs_in held)) front_runs ∙ ap (with_run earn at m (runs_in rest) (runs_in held)) (sym e ∙ best);
        })

-- ---- what is chosen, from what the parts hold

loosen : (earn : Earn) (m n : ℕ) (s : Selection) → s.count ≤ n → Sound earn m s → Sound earn n s
loosen earn m n s h k = record { earned = k.earned; small = k.small; few = h; two = k.two }

pub sound_one : (earn : Earn) {R : List Run} {s : Selection} → Chosen earn 0 R s → Sound earn 1 s
sound_one earn h = loosen earn 0 1 _ (omega (arith, h.sound.few)) h.sound

pub sound_two : (earn : Earn) {most : ℕ} {R : List Run} {s : Selection} → Chosen earn most R s → Sound earn 2 s
sound_two earn h = loosen earn _ 2 _ h.sound.two h.sound

pub chosen_next : (earn : Earn) (rules at m : ℕ) {n a b : ℕ} {R H : List Run} {rest held r : Selection}
    → Chosen earn a R rest → Chosen earn b H held → Chosen earn n (or_run earn rules at m (runs_in rest) (runs_in held)) r → Chosen earn 2 (or_run earn rules at m R H) r
chosen_next earn rules at m {R = R} {rest = rest} {held = held} x y h = record {
  sound = sound_two earn h;
  is = h.is ∙ ap (λ (t : List Run). or_run earn rules at m t (runs_in held)) x.is ∙ ap (or_run earn rules at m R) y.is;
}

pub chosen_few : (earn : Earn) {a b : ℕ} {R : List Run} {s : Selection} → s.count ≤ b → Chosen earn a R s → Chosen earn b R s
chosen_few earn h c = record { sound = loosen earn _ _ _ h c.sound; is = c.is }

pub few_none : (earn : Earn) (rules n at : ℕ) → n < 2 → best_from earn rules n at ≡ []
unfolding best_from
few_none earn rules zero at h = refl
few_none earn rules (suc zero) at h = refl
few_none earn rules (suc (suc n)) at h = absurd (omega arith)

pub of_count : (earn : Earn) (rules most n k : ℕ) (s : Selection) → n ≡ k → Chosen earn most (best_from earn rules k 0) s → Chosen earn 2 (best_from earn rules n 0) s
of_count earn rules most n k s e h = record { sound = sound_two earn h; is = h.is ∙ ap (λ (i : ℕ). best_from earn rules i 0) (sym e) }
