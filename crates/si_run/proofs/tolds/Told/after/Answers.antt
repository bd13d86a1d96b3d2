use Rattle.std.proofs.Common.{◌≡◌, ◌∙◌, List, ap, arith, length}
use Rattle.si_model.specs.declared.findings.Finding.{Finding}
use Rattle.si_text.specs.Texts.{violations_of}
use Rattle.si_run.proofs.Differences.{balance, fewer_went, violations_change}
use Rattle.si_run.proofs.tolds.Told.after.Goals as goal

pub count_on-requires : goal.count_on-requires
count_on-requires c =
    let r = c.requires in
    let went = c.args.went.now.items in
    omega (arith, c.len-2.ensures, c.args.went.now.ok.0, r.3.found, fewer_went r.0 r.1 c.args.came.now.items went r.2)

pub count_on-requires-2 : goal.count_on-requires-2
count_on-requires-2 c =
    let r = c.requires in
    let came = c.args.came.now.items in
    let went = c.args.went.now.items in
    let many : c.len-4.result ≡ length (violations_of went) = c.len-4.ensures ∙ c.keep_violations-2.new.findings.ok.0 ∙ ap (λ (l : List Finding). length l) c.keep_violations-2.ensures in
    omega (arith, many, r.3.violations, fewer_went (violations_of r.0) (violations_of r.1) (violations_of came) (violations_of went) (violations_change r.0 r.1 came went r.2))

pub returns-clause-told : goal.returns-clause-told
returns-clause-told c = λ was now change told.
    let came = c.args.came.now.items in
    let went = c.args.went.now.items in
    let more : c.len-3.result ≡ length (violations_of came) = c.len-3.ensures ∙ c.keep_violations.new.findings.ok.0 ∙ ap (λ (l : List Finding). length l) c.keep_violations.ensures in
    let less : c.len-4.result ≡ length (violations_of went) = c.len-4.ensures ∙ c.keep_violations-2.new.findings.ok.0 ∙ ap (λ (l : List Finding). length l) c.keep_violations-2.ensures in
    record {
      found = omega (arith, c.in_ok-found.ensures, c.len.ensures, c.args.came.now.ok.0, c.len-2.ensures, c.args.went.now.ok.0, told.found, balance was now came went change);
      violations = omega (
        arith,
        c.in_ok-violations.ensures,
        more,
        less,
        told.violations,
        balance (violations_of was) (violations_of now) (violations_of came) (violations_of went) (violations_change was now came went change),
      );
    }
