-- `sheet_layout::sheet::Sheet` tells its links.
use Rattle.std.proofs.Common.{◌≡◌, ◌+◌, sym, arith}
use Rattle.outline.specs.Sheet.{link_start, link_in}
use Rattle.laws.proofs.Sheet.{links_in_lem, link_in_lem, link_inside}
use Rattle.sheet_layout.proofs.sheet.SheetSource.link.Goals as goal

pub bounds-numbers-at : goal.bounds-numbers-at
bounds-numbers-at c =
    let inside = link_inside _ c.args.self.laid_out _ (rw (links_in_lem c.args.self.numbers.now) at c.requires) in
    omega (arith, c.args.self.links_begin, c.links_numbers.ensures.0)

pub bounds-numbers-at-2 : goal.bounds-numbers-at-2
bounds-numbers-at-2 c =
    let inside = link_inside _ c.args.self.laid_out _ (rw (links_in_lem c.args.self.numbers.now) at c.requires) in
    omega (arith, c.args.self.links_begin, c.links_numbers.ensures.0)

pub bounds-numbers-at-3 : goal.bounds-numbers-at-3
bounds-numbers-at-3 c =
    let inside = link_inside _ c.args.self.laid_out _ (rw (links_in_lem c.args.self.numbers.now) at c.requires) in
    omega (arith, c.args.self.links_begin, c.links_numbers.ensures.0)

pub bounds-numbers-at-4 : goal.bounds-numbers-at-4
bounds-numbers-at-4 c =
    let inside = link_inside _ c.args.self.laid_out _ (rw (links_in_lem c.args.self.numbers.now) at c.requires) in
    omega (arith, c.args.self.links_begin, c.links_numbers.ensures.0)

pub returns : goal.returns
unfolding link_in
returns c =
    let at : c.args.self.first_link + c.links_numbers.result ≡ link_start c.args.self.numbers.now c.args.k = omega (arith, c.args.self.links_begin, c.links_numbers.ensures.0) in
    let three : link_start c.args.self.numbers.now c.args.k + 3 ≡ link_start c.args.self.numbers.now c.args.k + 2 + 1 = omega arith in
    rw (at, three) (sym (link_in_lem _ _ (rw (links_in_lem c.args.self.numbers.now) at c.requires)))
