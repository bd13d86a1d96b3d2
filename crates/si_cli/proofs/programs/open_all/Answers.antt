use Rattle.std.proofs.Common.{rules, ◌≡◌, ◌<◌, ◌+◌, zero, suc, ◌++◌, ◌∷◌, [], All, false, map, length, take, sym, ap, subst, ◌∙◌, arith}
use Rattle.std.specs.Prelude.{slice_index_or}
use Rattle.std.specs.Io.KnownBytes.{Keeps}
use Rattle.std.proofs.lemmas.List.{get_or-map, length-map, map-append, take_all}
use Rattle.std.proofs.lemmas.List.Elements.{All-append}
use Rattle.si_text.specs.Devices.{Input, each_left}
use Rattle.si_cli.specs.Openings.{HoldFiles, contents}
use Rattle.si_cli.proofs.Opened.{each_left-one_more, kept_next}
use Rattle.si_cli.proofs.programs.open_all.Goals as goal

all_one : (input : Input) → input.failed ≡ false → All (λ (i : Input). i.failed ≡ false) (input ∷ [])
all_one input e zero d below = e
all_one input e (suc k) d below = absurd (omega arith)

pub names-init : goal.names-init
names-init g c =
    let seen = g.F.Source.ByteSource.seen in
    record {
      kept = subst (λ l. HoldFiles [] (each_left (map seen l))) (sym c.requires) tt;
      works = subst (λ l. All (λ (i : Input). i.failed ≡ false) (map seen l)) (sym c.requires) (λ k d below. absurd (omega arith));
    }

pub names-preserved : goal.names-preserved
names-preserved g c =
    let names = map (λ name. name.now) c.args.names.now in
    let folder = g.F.NamedFiles.seen c.args.files.now in
    let seen = g.F.Source.ByteSource.seen in
    let source = c.in-Ok.source in
    let before = c.names.sources.items in
    let pushed : c.push.new.self.items ≡ before ++ source ∷ [] = search rules in
    let below : c.names.place < length c.args.names.now = c.names-test.true in
    let at : slice_index_or names c.names.place [] ≡ (slice_index_or c.args.names.now c.names.place (record { ref_ptr = (0, 0); now = [] })).now =
    get_or-map (λ name. name.now) c.args.names.now c.names.place (record { ref_ptr = (0, 0); now = [] }) [] below in
    let within : c.names.place < length names = (let m = length-map c.args.names.now (λ name. name.now) in omega arith) in
    let keeps : Keeps (folder.bytes c.names.place (slice_index_or names c.names.place [])) (seen source).left =
    subst (λ n. Keeps (folder.bytes c.names.place n) (seen source).left) (sym at) c.in-Ok.ensures.left in
    record {
      kept = subst (λ l. HoldFiles (contents folder (take (c.names.place + 1) names)) (each_left (map seen l))) (sym pushed)
          (subst (HoldFiles (contents folder (take (c.names.place + 1) names))) (sym (each_left-one_more seen before source))
          (kept_next folder names c.names.place (each_left (map seen before)) (seen source).left within c.names.invariant.kept keeps));
      works = subst (All (λ (i : Input). i.failed ≡ false)) (sym (ap (map seen) pushed ∙ map-append seen before (source ∷ [])))
          (All-append (λ (i : Input). i.failed ≡ false) (map seen before) (seen source ∷ []) c.names.invariant.works (all_one (seen source) c.in-Ok.ensures.failed));
    }

pub returns-clause-ok : goal.returns-clause-ok
returns-clause-ok g c =
    let names = map (λ name. name.now) c.args.names.now in
    let all : take c.names.place names ≡ names = take_all c.names.place names (let n = c.names-test.false in let m = length-map c.args.names.now (λ name. name.now) in omega arith) in (
      subst (λ l. HoldFiles (contents (g.F.NamedFiles.seen c.args.files.now) l) (each_left (map g.F.Source.ByteSource.seen c.names.sources.items))) all c.names.invariant.kept,
      c.names.invariant.works,
    )
