-- `listing::put_pair` meets its contract.
use mathlib.Core.Path.{ap}
use native.Mathlib.Omega.{arith}
use Rattle.std.proofs.Common.{◌≡◌, true, false, rules}
use Rattle.outline.specs.Network.{same_station}
use Rattle.outline.specs.Tests.{both, choose}
use Rattle.outline.specs.Lister.{line_of, pair_of, pair_line}
use Rattle.listing.specs.Lines.{line_to}
use Rattle.listing.proofs.Putting.{put_nothing, put_same}
use Rattle.listing.proofs.Pairs.{pair_good, pair_answer}
use Rattle.listing.proofs.put_pair.Goals as goal

pub returns-then-eq : goal.returns-then-eq
unfolding line_to choose same_station both
returns-then-eq c =
    let same : same_station c.args.x c.args.y ≡ true = search rules in
    rw same (put_nothing _ _, omega arith)

pub ask-answer-requires : goal.ask-answer-requires
unfolding same_station both
ask-answer-requires c =
    let differ : same_station c.args.x c.args.y ≡ false = search rules in
    pair_good _ _ _ c.requires.0 c.requires.1 differ

pub returns : goal.returns
unfolding line_to pair_line choose same_station both
returns c =
    let differ : same_station c.args.x c.args.y ≡ false = search rules in
    let asked = pair_answer c.args.good.book.bytes.now (pair_of c.args.x c.args.y) _ c.args.good.valid (pair_good _ _ _ c.requires.0 c.requires.1 differ) c.ask-answer.ensures in
    let line = c.put_line.ensures in
    rw differ (put_same (ap (line_of (pair_of c.args.x c.args.y)) asked) line.0, line.1)
