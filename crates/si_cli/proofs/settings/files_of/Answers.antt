use Rattle.std.proofs.Common.{◌∙◌, List, ℕ, [], ap, option_map, unwrap_or, map, sym}
use Rattle.std.specs.Borrow.{Bor}
use Rattle.std.proofs.lemmas.Result.{IfOk-weaker}
use Rattle.clap.specs.Words.{found_of}
use Rattle.si_cli.proofs.GivenValues.{files_read}
use Rattle.si_cli.proofs.settings.files_of.Goals as goal

abbrev names : Bor (List (Bor (List ℕ))) → List (List ℕ)
names s = map (λ (v : Bor (List ℕ)). v.now) s.now

pub returns-in-Some : goal.returns-in-Some
returns-in-Some c =
    let read = ap (λ r. unwrap_or (option_map names r) []) (sym c.in-Some.is) ∙ files_read (found_of c.args.check.now) c.get_raw.result c.get_raw.ensures in
    IfOk-weaker c.from_slice.result _ _ (λ files items. ap (map (λ (v : Bor (List ℕ)). v.now)) items ∙ read) c.from_slice.ensures.items

pub returns-in-None : goal.returns-in-None
returns-in-None c =
    let read = ap (λ r. unwrap_or (option_map names r) []) (sym c.in-None.is) ∙ files_read (found_of c.args.check.now) c.get_raw.result c.get_raw.ensures in
    ap (map (λ (v : Bor (List ℕ)). v.now)) c.new.ensures.items ∙ read
