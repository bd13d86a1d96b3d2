use Rattle.std.proofs.Common.{◌≡◌, All, false, map, take}
use Rattle.si_text.specs.Devices.{Input, each_left}
use Rattle.si_cli.specs.Openings.{HoldFiles, contents}
use Rattle.si_cli.proofs.programs.open_all.Given as goal

-- the first files were opened
abbrev pub invariant-names : goal.invariant-names
invariant-names g l =
    let names = map (λ name. name.now) l.names in
    let sources = map g.F.Source.ByteSource.seen l.sources.items in
    record {
      kept : HoldFiles (contents (g.F.NamedFiles.seen l.files) (take l.place names)) (each_left sources);
      works : All (λ (source : Input). source.failed ≡ false) sources;
    }
