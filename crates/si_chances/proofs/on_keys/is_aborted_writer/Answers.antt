use Rattle.std.proofs.Common.{◌&&◌, ap, ◌∙◌, sym, nat_lt}
use Rattle.si_model.specs.declared.transactions.Status.{Status}
use Rattle.si_model.specs.Chances.{is_aborted, is_write_access, writes_key}
use Rattle.si_chances.proofs.Walking.{any_counted}
use Rattle.si_chances.proofs.on_keys.is_aborted_writer.Goals as goal

pub returns-in-Aborted : goal.returns-in-Aborted
returns-in-Aborted c =
    let T = c.args.part.now in
    ap (nat_lt 0) c.summary_of.ensures.writes ∙ sym (any_counted (λ a. is_write_access a.access) T.accesses) ∙ ap (λ (s : Status). is_aborted s && writes_key T) (sym c.in-Aborted.is)
