use Rattle.std.proofs.Common.{◌≡◌, ◌≤◌, ◌-◌, length, take}
use Rattle.si_model.specs.KeyTexts.{shard_hash}
use Rattle.si_text.specs.UsualBytes.{ArePlain}
use Rattle.si_text.proofs.usual_bytes.Rest.key.Given as goal

abbrev pub invariant-bytes : goal.invariant-bytes
invariant-bytes l = record {
  plain : ArePlain (take l.count l.text);
  copied : take l.count l.bytes ≡ take l.count l.text;
  hash : l.hash ≡ shard_hash (take l.count l.text);
  room : length l.bytes ≡ 16;
  few : l.count ≤ 16;
  within : l.count ≤ length l.text;
}

abbrev pub decreases-bytes : goal.decreases-bytes
decreases-bytes l = 16 - l.count
