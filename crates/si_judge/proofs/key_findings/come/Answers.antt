use Rattle.std.proofs.Common.{◌∙◌, ◌+◌, IfSome, inr, length, refl, subst, sym}
use Rattle.std.specs.List.{Contains}
use Rattle.si_sorted.specs.Entries.{value_at}
use Rattle.si_judge.specs.Indexes.{reads_in, version_by}
use Rattle.si_judge.specs.Mending.{AreReadsJudged, IsVersionJudged, read_cmp, stamp_cmp}
use Rattle.si_judge.proofs.Coming.{accesses_rise, version_stands}
use Rattle.si_judge.proofs.Counts.{rises, rises_on}
use Rattle.si_judge.proofs.key_findings.come.Goals as goal

pub put_in-requires-clause-fits : goal.put_in-requires-clause-fits
put_in-requires-clause-fits g c = c.requires.fits

pub judge_reads_in-requires : goal.judge_reads_in-requires
judge_reads_in-requires g c = accesses_rise c.args.part.now c.requires.fits.2

pub judge_version-requires : goal.judge_version-requires
judge_version-requires g c =
    let ix = c.put_in.new.self in
    let fits = c.requires.fits.2 in
    let is = c.in_ok-put_in.ensures c.requires.fits.0 fits.0 c.requires.fits.1 fits.1 fits.2 in
    subst (λ o. IfSome o (Contains ix.timeline)) (sym c.requires.version) (version_stands ix c.args.part.now is ((fits.1.parts c.args.part.now).1 (inr refl)))

pub returns-clause-judged : goal.returns-clause-judged
returns-clause-judged g c = λ R is.
    let J = g.J.Judge.rules in
    let count = g.J.Judge.answers in
    let T = c.args.part.now in
    let ix = c.put_in.new.self in
    let m0 = c.args.judgements.now in
    let m1 = c.judge_reads.new.self in
    let m2 = c.judge_reads_in.new.self in
    let m3 = c.judge_version.new.self in
    let overlaps = c.in_ok-judge_reads_in.ensures.overlaps ∙ c.in_ok-judge_reads.ensures.overlaps in
    let first = rises (count m0.judge) (length c.args.others.now) (count m1.judge) c.in_ok-judge_reads.ensures.counted in
    let second = rises (count m1.judge) (length (reads_in T)) (count m2.judge) c.in_ok-judge_reads_in.ensures.counted in
    record {
      middle = value_at read_cmp m1.reads;
      others_judged = c.in_ok-judge_reads.ensures.reads R is;
      own_judged = subst (λ m. AreReadsJudged J R ix (reads_in T) (value_at read_cmp m1.reads) (value_at read_cmp m)) (sym c.in_ok-judge_version.ensures.reads)
          (c.in_ok-judge_reads_in.ensures.reads R is);
      version = subst (λ m. IsVersionJudged J R ix (version_by T) (value_at stamp_cmp m) (value_at stamp_cmp m3.overlaps)) overlaps
          (subst (λ v. IsVersionJudged J R ix v (value_at stamp_cmp m2.overlaps) (value_at stamp_cmp m3.overlaps)) c.requires.version (c.in_ok-judge_version.ensures.overlaps R is));
      counted = rises_on (length c.args.others.now + length (reads_in T)) 2 (count m0.judge) (count m2.judge) (count m3.judge)
          (rises_on (length c.args.others.now) (length (reads_in T)) (count m0.judge) (count m1.judge) (count m2.judge) first second) c.in_ok-judge_version.ensures.counted;
    }
