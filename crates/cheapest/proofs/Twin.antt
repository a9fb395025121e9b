-- The listed routes are the admissible ones, and the answer computed from them is the answer to the question.
use Prim.Native.Nat.{ℕ, zero, suc, ◌≤◌, ◌<◌}
use Rattle.std.proofs.Common.{Ok, Err}
use mathlib.Core.Path.{◌≡◌, refl, sym, subst, ◌∙◌}
use mathlib.Core.Bool.{Bool, true, false}
use mathlib.Core.Logic.{◌⊎◌, inl, inr, ⊎_elim, ◌↔◌}
use mathlib.Core.List.{List, [], ◌∷◌, ◌++◌}
use native.Mathlib.Nat.{eq-or-lt_of_le}
use native.Mathlib.Omega.{arith}
use lib.ListN.{length, take, length-append}
use lib.Seq.{take_all, length-take-le}
use lib.Dec.{ltb, eqb}
use borrow.Author.Tests.{ltb-true, lt-ltb, eqb-true, eq-eqb}
use Rattle.outline.specs.declared.Leg.{Leg}
use Rattle.outline.specs.declared.Question.{Question}
use Rattle.outline.specs.declared.Answer.{Answer}
use Rattle.outline.specs.Tests.{both, either, choose, Within, list_of, in_order}
use Rattle.outline.specs.Refusals.{◌and_then◌, Judged}
use Rattle.outline.specs.Lexical.{LexLe}
use Rattle.outline.specs.Network.{Network}
use Rattle.outline.specs.Book.{network}
use Rattle.outline.specs.Judging.{book_check}
use Rattle.outline.specs.Routes.{Exists, ride_at, good_next, bytes_of}
use Rattle.outline.specs.Price.{fare_of, answer_to}
use Rattle.outline.specs.Questions.{Joins, NoLater, Answered, AnswerTo, Asked, question_check}
use Rattle.outline.specs.Listing.{those, ride, rides, longer, routes_of, routes_within, joins_them, lex_le, no_later, first_of, answer_among, found_of, asked_of}
use Rattle.outline.specs.Numbers.{most_rides}
use Rattle.laws.proofs.Firsts.{demand_good, then_good}
use Rattle.laws.proofs.Tests.{within_true, true_not_false, both_true, both_holds, either_true, either_first, either_second}
use Rattle.laws.proofs.Routes.{next_is}
use Rattle.laws.proofs.Admissible.{admissible_good}
use Rattle.laws.proofs.Judging.{same_station_lem, same_station_holds}
use Rattle.laws.specs.Rides.{AllGood}
use Rattle.cheapest.specs.Items.{In}
use Rattle.cheapest.proofs.Lists.{of_one, in_first, in_second, in_either, in_those, of_those, in_each, of_each_lem, in_lists, in_list}
use Rattle.cheapest.proofs.Onward.{good_none, good_more, good_front, one_more}
use Rattle.cheapest.proofs.Earlier.{earlier_same, earlier_then, earlier_total, one_answer}

-- ---- the listed routes

ride_in : (N : Network) (l : Leg) → Exists N l → In l (rides N)
unfolding rides
ride_in N l e =
    in_lists (λ (c : ℕ). in_order (λ (i : ℕ). list_of (ride c i) (N.stations c)) (N.stations c)) l N.companies l.company e.company
    (in_lists (λ (i : ℕ). list_of (ride l.company i) (N.stations l.company)) l (N.stations l.company) l.boarding e.boarding
    (in_list (ride l.company l.boarding) (N.stations l.company) l.alighting e.alighting))

next_listed : (N : Network) (p : List Leg) (l : Leg) → good_next N p l ≡ true → In (p ++ (l ∷ [])) (longer N p)
unfolding longer In
next_listed N p l g =
    in_each (λ (l : Leg). (p ++ (l ∷ [])) ∷ []) l (p ++ (l ∷ [])) (those (good_next N p) (rides N)) (in_those (good_next N p) l (rides N) (ride_in N l ((next_is N p l).0 g).exists) g) (inl refl)

pub routes_listed : (N : Network) (n : ℕ) (route : List Leg) → length route ≡ n → AllGood N route → In route (routes_of N n)
unfolding routes_of In
routes_listed N zero [] e good = inl refl
routes_listed N zero (l ∷ s) e good = absurd (omega arith)
routes_listed N (suc n) route e good =
    let more : n < length route = omega arith in
    let le : n ≤ length route = omega arith in
    let whole : take n route ++ (ride_at route n ∷ []) ≡ route = one_more route n more ∙ take_all (suc n) route (omega arith) in
    in_each (longer N) (take n route) route (routes_of N n)
    (routes_listed N n (take n route) (length-take-le n route le) (good_front N route n le good))
    (subst (λ (r : List Leg). In r (longer N (take n route))) whole (next_listed N (take n route) (ride_at route n) (good n more)))

pub routes_good : (N : Network) (n : ℕ) (route : List Leg) → In route (routes_of N n) → (length route ≡ n) × AllGood N route
unfolding routes_of longer In
routes_good N zero route (inr h) = absurd h
routes_good N zero route (inl e) = subst (λ (r : List Leg). (length r ≡ zero) × AllGood N r) e (refl, good_none N)
routes_good N (suc n) route h =
    let (p, listed, next) = of_each_lem (longer N) route (routes_of N n) h in
    let (l, able, is) = of_each_lem (λ (l : Leg). (p ++ (l ∷ [])) ∷ []) route (those (good_next N p) (rides N)) next in
    let (long, good) = routes_good N n p listed in
    let g = (of_those (good_next N p) l (rides N) able).1 in
    let whole : p ++ (l ∷ []) ≡ route = of_one _ route is in
    subst (λ (r : List Leg). (length r ≡ suc n) × AllGood N r) whole (omega (arith, length-append p (l ∷ [])), good_more N p l good g)

pub record Listed (N : Network) (n : ℕ) (route : List Leg) : Type 0 where
  pub long : Within 1 (length route) n
  pub good : AllGood N route

pub within_listed : (N : Network) (n : ℕ) (route : List Leg) → Listed N n route → In route (routes_within N n)
unfolding routes_within
within_listed N zero route h = absurd (omega (arith, h.long.from, h.long.to))
within_listed N (suc n) route h =
    ⊎_elim (λ e. in_second route (routes_within N n) (routes_of N (suc n)) (routes_listed N (suc n) route e h.good))
    (λ l. in_first route (routes_within N n) (routes_of N (suc n)) (within_listed N n route (record { long = record { from = h.long.from; to = omega arith }; good = h.good })))
    (eq-or-lt_of_le h.long.to)

pub within_good : (N : Network) (n : ℕ) (route : List Leg) → In route (routes_within N n) → Listed N n route
unfolding routes_within In
within_good N zero route h = absurd h
within_good N (suc n) route h =
    ⊎_elim (λ i. let w = within_good N n route i in record { long = record { from = w.long.from; to = omega (arith, w.long.to) }; good = w.good })
    (λ i. let w = routes_good N (suc n) route i in record { long = record { from = omega (arith, w.0); to = omega (arith, w.0) }; good = w.1 })
    (in_either route (routes_within N n) (routes_of N (suc n)) h)

-- ---- the first of them

lex_is : (s t : List ℕ) → lex_le s t ≡ true → LexLe s t
unfolding lex_le LexLe
lex_is [] t e = tt
lex_is (a ∷ s) [] e = absurd (true_not_false (sym e))
lex_is (a ∷ s) (b ∷ t) e =
    ⊎_elim (λ h. inl (ltb-true a b h)) (λ h. let (x, y) = both_true (eqb a b) (lex_le s t) h in inr (eqb-true a b x, lex_is s t y)) (either_true (ltb a b) (both (eqb a b) (lex_le s t)) e)

is_lex : (s t : List ℕ) → LexLe s t → lex_le s t ≡ true
unfolding lex_le LexLe
is_lex [] t h = refl
is_lex (a ∷ s) [] h = absurd h
is_lex (a ∷ s) (b ∷ t) (inl l) = either_first _ _ (lt-ltb a b l)
is_lex (a ∷ s) (b ∷ t) (inr (e, h)) = either_second (ltb a b) (both (eqb a b) (lex_le s t)) (both_holds (eqb a b) (lex_le s t) (eq-eqb a b e) (is_lex s t h))

earlier_is : (N : Network) (s t : List Leg) → no_later N s t ≡ true → NoLater N s t
unfolding no_later
earlier_is N s t e = ⊎_elim (λ h. inl (ltb-true _ _ h)) fares (either_true _ _ e)
  where
    rest : either (ltb (length s) (length t)) (both (eqb (length s) (length t)) (lex_le (bytes_of s) (bytes_of t))) ≡ true → (length s < length t) ⊎ ((length s ≡ length t) × LexLe (bytes_of s) (bytes_of t))
    rest h = ⊎_elim (λ l. inl (ltb-true _ _ l)) (λ k. let (x, y) = both_true _ _ k in inr (eqb-true _ _ x, lex_is _ _ y)) (either_true _ _ h)

    fares : both (eqb (fare_of N s) (fare_of N t)) (either (ltb (length s) (length t)) (both (eqb (length s) (length t)) (lex_le (bytes_of s) (bytes_of t)))) ≡ true → NoLater N s t
    fares h = let (x, y) = both_true _ _ h in inr (eqb-true _ _ x, rest y)

is_earlier : (N : Network) (s t : List Leg) → NoLater N s t → no_later N s t ≡ true
unfolding no_later
is_earlier N s t (inl l) = either_first _ _ (lt-ltb _ _ l)
is_earlier N s t (inr (e, inl l)) = either_second _ _ (both_holds _ _ (eq-eqb _ _ e) (either_first _ _ (lt-ltb _ _ l)))
is_earlier N s t (inr (e, inr (n, h))) = either_second _ _ (both_holds _ _ (eq-eqb _ _ e) (either_second _ _ (both_holds _ _ (eq-eqb _ _ n) (is_lex _ _ h))))

not_earlier : (N : Network) (s t : List Leg) → no_later N s t ≡ false → NoLater N t s
not_earlier N s t e = ⊎_elim (λ h. absurd (true_not_false (sym (is_earlier N s t h) ∙ e))) (λ h. h) (earlier_total N s t)

-- of the best and the others it is one, and no later than any
pub record First (N : Network) (best : List Leg) (others : List (List Leg)) (r : List Leg) : Type 0 where
  pub one : In r (best ∷ others)
  pub first : (t : List Leg) → In t (best ∷ others) → NoLater N r t

pub first_is : (N : Network) (best : List Leg) (others : List (List Leg)) → First N best others (first_of N best others)
unfolding first_of In choose
first_is N best [] = record { one = inl refl; first = λ t. ⊎_elim (λ e. subst (NoLater N best) e (earlier_same N best)) (λ h. absurd h) }
first_is N best (s ∷ others) = go (no_later N best s) refl (first_is N best others) (first_is N s others)
  where
    go : (b : Bool) → no_later N best s ≡ b → First N best others (first_of N best others) → First N s others (first_of N s others) → First N best (s ∷ others) (first_of N (choose b best s) others)
    go true e f g = record {
      one = ⊎_elim (λ p. inl p) (λ p. inr (inr p)) f.one;
      first = λ t. ⊎_elim (λ p. f.first t (inl p))
          (⊎_elim (λ p. earlier_then N (first_of N best others) best t (f.first best (inl refl)) (subst (NoLater N best) p (earlier_is N best s e))) (λ p. f.first t (inr p)));
    }
    go false e f g = record {
      one = inr g.one;
      first = λ t. ⊎_elim (λ p. earlier_then N (first_of N s others) s t (g.first s (inl refl)) (subst (NoLater N s) p (not_earlier N best s e))) (λ p. g.first t p);
    }

-- ---- the answer

candidate : (N : Network) (q : Question) (route : List Leg) → Joins N q route → In route (those (joins_them q) (routes_within N q.limit))
unfolding joins_them
candidate N q route j =
    let (few, good) = (admissible_good N route).0 j.admissible in
    in_those (joins_them q) route (routes_within N q.limit)
    (within_listed N q.limit route (record { long = record { from = few.from; to = j.short }; good = good }))
    (both_holds _ _ (same_station_holds _ _ j.from) (same_station_holds _ _ j.to))

candidate_joins : (N : Network) (q : Question) (route : List Leg) → q.limit ≤ most_rides → In route (those (joins_them q) (routes_within N q.limit)) → Joins N q route
unfolding joins_them
candidate_joins N q route most h =
    let (listed, ends) = of_those (joins_them q) route (routes_within N q.limit) h in
    let w = within_good N q.limit route listed in
    let (from, to) = both_true _ _ ends in
    record {
      admissible = (admissible_good N route).1 (record { from = w.long.from; to = omega (arith, w.long.to) }, w.good);
      from = same_station_lem _ _ from;
      to = same_station_lem _ _ to;
      short = w.long.to;
    }

-- the answer among the routes that join the two
pub among_is : (N : Network) (q : Question) (routes : List (List Leg)) → ((t : List Leg) → Joins N q t ↔ In t routes) → Answered N q (answer_among N routes)
unfolding answer_among In
among_is N q [] all = inr (record { none = λ t j. (all t).0 j; is = refl })
among_is N q (s ∷ others) all =
    let f = first_is N s others in
    inl (record {
      route = first_of N s others;
      cheapest = record { joins = (all (first_of N s others)).1 f.one; first = λ t j. f.first t ((all t).0 j) };
      is = refl;
    })

pub found_is : (N : Network) (q : Question) → q.limit ≤ most_rides → Answered N q (found_of N q)
unfolding found_of
found_is N q most = among_is N q (those (joins_them q) (routes_within N q.limit)) (λ t. (candidate N q t, candidate_joins N q t most))

pub limit_within : (N : Network) (q : Question) → question_check N q ≡ Ok tt → Within 1 q.limit most_rides
unfolding question_check
limit_within N q e =
    let (_, a) = demand_good _ _ _ e in
    let (_, b) = demand_good _ _ _ a in
    let (_, c) = demand_good _ _ _ b in
    within_true _ _ _ (demand_good _ _ _ c).0

pub asked_computed : (b : List ℕ) (q : Question) → Asked b q (asked_of b q)
unfolding Asked AnswerTo asked_of answer_to
asked_computed b q = go (book_check b and_then question_check (network b) q) refl
  where
    go : (a : Judged) → book_check b and_then question_check (network b) q ≡ a → AnswerTo a (network b) q (answer_to a (found_of (network b) q))
    go (Ok _) e = found_is (network b) q (limit_within (network b) q (then_good _ _ e).1).to
    go (Err x) e = refl

-- what the definition allows is what is computed
pub asked_is : (b : List ℕ) (q : Question) (r : Answer) → Asked b q r ↔ (r ≡ asked_of b q)
asked_is b q r = (λ h. one_answer b q r (asked_of b q) h (asked_computed b q), λ e. subst (Asked b q) (sym e) (asked_computed b q))
