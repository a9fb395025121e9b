-- `rules::are_bytes` meets its contract.
use Rattle.std.proofs.Common.{◌≡◌, ℕ, ◌<◌, length, get_or, ltb, rules, true, IsTrue, ◌↔◌}
use Rattle.laws.proofs.Tests.{all_is}
use Rattle.rules.proofs.are_bytes.Goals as goal

pub returns : goal.returns
returns c =
    let each : IsTrue c.all.result ↔ ((i : ℕ) → i < length c.args.map.now → ltb (get_or c.args.map.now i 0) 256 ≡ true) = search rules in
    all_is _ _ _ each
