use Rattle.std.proofs.Common.{◌-◌, ◌≤◌, length, drop, ap, ◌∙◌, arith}
use Rattle.std.proofs.lemmas.List.{length-take, length-drop}
use Rattle.si_text.proofs.Between.{part_past}
use Rattle.si_text.proofs.read_pieces.Piece.take.Goals as goal

pub returns : goal.returns
returns c =
    let held = ap length c.self.view_is in
    let within : c.args.count ≤ c.self.inside.end - c.self.inside.start = omega (arith, c.requires, simp (length-take, length-drop) at held) in
    part_past _ c.self.inside.start c.self.inside.end c.args.count within ∙ ap (drop c.args.count) c.self.view_is
