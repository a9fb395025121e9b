-- `reading::fill_links` meets its contract.
use lib.ListN.{length}
use native.Mathlib.Omega.{arith}
use mathlib.Core.Path.{◌≡◌, ap, ◌∙◌}
use Prim.Native.Nat.{ℕ, ◌*◌, ◌<◌}
use Rattle.outline.specs.Lending.{filled}
use Rattle.outline.specs.Tests.{in_order}
use Rattle.outline.specs.Fares.{link_at}
use Rattle.outline.specs.Book.{fares_of}
use Rattle.outline.specs.Sheet.{link_sheet, links_sheet}
use Rattle.filling.proofs.InOrder.{order_turn_sized}
use Rattle.filling.proofs.Sizes.{link_sheet_length}
use Rattle.filling.proofs.Whole.{book_whole, links_of, link_of_network, links_sheet_length}
use Rattle.laws.proofs.Reading.{network_links}
use Rattle.reading.proofs.fill_links.Goals as goal
use Rattle.reading.proofs.fill_links.Goals.{After-links_numbers-at}

-- what is known of a turn once its place is reckoned
met : (c : After-links_numbers-at) → (c.links_numbers-at.result ≡ 4 * c.loop-k.k) × (c.loop-k.k < length (fares_of c.args.book.bytes.now).links) × (length (links_sheet (fares_of c.args.book.bytes.now)) ≡ 4 * length (fares_of c.args.book.bytes.now).links)
met c = (omega (arith, c.links_numbers-at.ensures.0, c.from.ensures), omega (arith, links_of c.args.book.bytes.now, network_links c.args.book.bytes.now, c.links-k-end.ensures, c.loop-k-test.true), links_sheet_length _ (book_whole _ c.args.book.laid_out))

pub loop-k-preserved : goal.loop-k-preserved
unfolding links_sheet
loop-k-preserved c =
    let t = met (goal.at.loop-k-preserved c).After-links_numbers-at in
    let b = c.args.book.bytes.now in
    order_turn_sized (λ (j : ℕ). link_sheet (link_at (fares_of b) j)) 4 (length (fares_of b).links) c.loop-k.k c.args.sheet.now _ _ _ (λ j l. link_sheet_length (link_at (fares_of b) j))
    t.1 (omega (arith, c.requires)) c.loop-k.invariant t.0 (rw (c.link.ensures, link_of_network b c.loop-k.k) at c.put_link.ensures)

pub returns : goal.returns
unfolding links_sheet
returns c =
    let b = c.args.book.bytes.now in
    let e : c.loop-k.k ≡ length (fares_of b).links = omega (arith, links_of b, network_links b, c.links-k-end.ensures, c.loop-k.auto.k-end, c.loop-k-test.false) in
    c.loop-k.invariant ∙ ap (λ (n : ℕ). filled (in_order (λ (j : ℕ). link_sheet (link_at (fares_of b) j)) n) c.args.sheet.now) e
