-- A line that fits is its text, whole.
use Rattle.std.proofs.Common.{rules, take, ◌++◌, inl, ap, ◌∙◌}
use Rattle.std.proofs.lemmas.Fmt.{contents_after_writes}
use Rattle.std.proofs.lemmas.Option.{IfSome_then}
use Rattle.text.proofs.lines.Lines.put_line.Goals as goal

pub returns-in-Ok : goal.returns-in-Ok
returns-in-Ok g c = record {
  text = c.text.result.now;
  is = IfSome_then (g.D.Display.output c.args.line) c.in-Ok.ensures.writes (λ bs p.
      inl (c.text.ensures
      ∙ contents_after_writes _ (λ s. take s.end s.bytes) (λ _ _ _ t. t) _ bs _ p
      ∙ ap (λ n. take n c.new-scratch.result.bytes ++ bs) c.new-scratch.ensures));
  wrote = search rules;
}
