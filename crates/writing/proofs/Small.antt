-- The links and rules of a valid sheet have a byte wherever the book has one.
use Prim.Native.Nat.{ℕ, zero, suc, ◌≤◌, ◌<◌}
use mathlib.Core.Path.{◌≡◌, refl}
use mathlib.Core.Bool.{Bool, true, false}
use mathlib.Core.List.{List, [], ◌∷◌, ◌++◌}
use native.Mathlib.Nat.{le_of_suc-le-suc}
use native.Mathlib.Omega.{arith}
use lib.Dec.{ltb}
use borrow.Author.Tests.{ltb-true, ltb-false}
use Rattle.outline.specs.Numbers.{most_stations}
use Rattle.outline.specs.declared.Link.{Link}
use Rattle.outline.specs.declared.Rule.{Rule}
use Rattle.outline.specs.Fares.{company_at}
use Rattle.outline.specs.Network.{Network}
use Rattle.outline.specs.Sheet.{companies_in, links_in, rules_in, link_start, link_in, rule_start, rule_in, network_in}
use Rattle.outline.specs.Valid.{GoodLink, GoodRule}
use Rattle.outline.specs.SheetValid.{ValidSheet}
use Rattle.laws.proofs.Reading.{RuleSized}
use Rattle.laws.proofs.Sheet.{network_companies_in, network_links_in, network_rules_in, network_stations_in, network_link_in, network_rule_in, rule_sized_in, rule_inside}
use Rattle.bodies.specs.Bytes.{Small, LinkBytes, RuleBytes}

small_append : (xs ys : List ℕ) → Small xs → Small ys → Small (xs ++ ys)
small_append [] ys h k i l = k i l
small_append (x ∷ xs) ys h k zero l = h zero (omega arith)
small_append (x ∷ xs) ys h k (suc i) l = small_append xs ys (λ j m. h (suc j) (omega arith)) k i (le_of_suc-le-suc l)

link_small : (N : Network) (l : Link) → N.companies ≤ 16 → ((c : ℕ) → c < N.companies → N.stations c ≤ most_stations) → GoodLink N l → LinkBytes l
link_small N l few small g =
    let one = small l.one.company (omega (arith, g.ordered, g.company)) in
    let other = small l.other.company g.company in
    record {
      company = omega (arith, g.ordered, g.company);
      station = omega (arith, g.one);
      other_company = omega (arith, g.company);
      other_station = omega (arith, g.other);
    }

rule_small : (N : Network) (r : Rule) → N.companies ≤ 16 → RuleSized r → GoodRule N r → RuleBytes r
rule_small N r few sized g = record { first = first; maps = small_append r.boarding _ g.boarding.bytes (small_append r.alighting _ g.alighting.bytes g.permitted.bytes) }
  where
    company : (i : ℕ) → i < 4 → (t : Bool) → ltb i r.rides ≡ t → company_at r i < 256
    company i h true e = omega (arith, g.existing i (ltb-true _ _ e))
    company i h false e = omega (arith, g.rest i (ltb-false _ _ e) h)

    first : Small (r.rides ∷ r.companies)
    first zero h = omega (arith, g.rides.to)
    first (suc i) h = company i (omega (arith, sized.companies)) (ltb i r.rides) refl

module _ (s : List ℕ) (valid : ValidSheet s) where
  few : (network_in s).companies ≤ 16
  few = omega (arith, network_companies_in s, valid.laid_out.counts.companies.to)

  pub link_bytes_lem : (k : ℕ) → k < links_in s → LinkBytes (link_in s (link_start s k))
  unfolding network_in
  link_bytes_lem k h = rw (← network_link_in s k h) (link_small (network_in s) _ few stations (valid.fares.links k (rw (network_links_in s) h)).0)
    where
      stations : (c : ℕ) → c < (network_in s).companies → (network_in s).stations c ≤ most_stations
      stations c l =
          let known : c < companies_in s = omega (arith, network_companies_in s) in
          rw (network_stations_in s c known) (valid.laid_out.companies c known).stations.to

  pub rule_bytes_lem : (k : ℕ) → k < rules_in s → RuleBytes (rule_in s (rule_start s k))
  unfolding network_in
  rule_bytes_lem k h =
      rule_small (network_in s) _ few (rule_sized_in s _ (rule_inside s valid.laid_out k h))
      (rw (network_rule_in s k h) at (valid.fares.rules k (rw (network_rules_in s) h)))
