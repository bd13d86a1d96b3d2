use Rattle.std.proofs.Common.{◌≡◌, ℕ, List, true, subst, sym}
use Rattle.std.specs.List.{list_all}
use Rattle.si_text.specs.Printing.{Appends, is_plain}
use Rattle.si_text.proofs.PlainTexts.{plain_text}
use Rattle.si_text.proofs.printing.put_json.Goals as goal

pub returns-then-is_plain : goal.returns-then-is_plain
returns-then-is_plain c =
    let plain : list_all is_plain c.args.text.now ≡ true = cc in
    let P : List ℕ → Type 0 = λ text. Appends c.put_quoted.result c.args.out.now.items c.put_quoted.new.out.items text in
    subst P (sym (plain_text c.args.text.now plain)) c.put_quoted.ensures
