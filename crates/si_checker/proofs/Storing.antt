-- What a shard has applied is a beginning of what it is due, before and after it applies more.
use Rattle.std.proofs.Common.{◌≡◌, ◌∙◌, ⊎_elim, ◌<◌, ◌≤◌, ◌+◌, ℕ, List, length, take, drop, sym, ap, subst, arith}
use Rattle.std.proofs.lemmas.List.{length-map, map-append, take-append-drop}
use Rattle.si_model.specs.declared.edits.Edit.{Edit}
use Rattle.si_model.specs.Journals.{IsAccepted}
use Rattle.si_model.specs.Laws.{AcceptedBegins}
use Rattle.si_words.specs.declared.views.Entry.{Entry}
use Rattle.si_words.specs.declared.views.ShardView.{ShardView}
use Rattle.si_words.specs.Entries.{IsBeginning, edit_in, edits_of}
use Rattle.si_words.specs.Seats.{Board, Seated}
use Rattle.si_words.specs.Views.{with_done}
use Rattle.si_shard.specs.JournalShards.{AppliesFirst, Follows, state_of}
use Rattle.si_shard.specs.declared.journal_shards.JournalShard.{JournalShard}
use Rattle.si_shard.proofs.Following.{follows_longer}
use Rattle.si_checker.specs.LockedShards.{IsLockedShard}

pub taken_accepted : AcceptedBegins → (E : List Edit) (n : ℕ) → IsAccepted E → IsAccepted (take n E)
taken_accepted begins E n accepted = begins (take n E) (drop n E) (subst IsAccepted (sym (take-append-drop n E)) accepted)

pub edits_length : (xs : List Entry) → length (edits_of xs) ≡ length xs
edits_length xs = length-map xs edit_in

-- a shard follows a journal that goes on
pub follows_begun : (part whole : List Entry) (s : JournalShard) → IsBeginning part whole → Follows (edits_of part) s → Follows (edits_of whole) s
follows_begun part whole s begins follows =
    subst (λ J. Follows J s) (sym (ap edits_of begins.1 ∙ map-append edit_in part begins.0)) (follows_longer (edits_of part) (edits_of begins.0) s follows)

-- a shard that applied some more of what it is due, and published that
pub locked_shard_applied : (board : Board) (old new : JournalShard) (seat : Seated ShardView) (n p : ℕ) → IsLockedShard board old seat
    → seat.view.done + n ≤ length (edits_of seat.view.due) → AppliesFirst n (state_of old) (state_of new) → Follows (edits_of seat.view.due) new → p ≡ new.position
    → IsLockedShard board new (record seat { view = with_done p seat.view })
locked_shard_applied board old new seat n p is room first follows far =
    let long = edits_length seat.view.due in
    let was = is.position in
    let most = first.within in
    let onward = first.onward in record {
      table = is.table;
      number = is.number;
      id = first.id ∙ is.id;
      accepted = is.accepted;
      room = is.room;
      within = omega arith;
      position = sym far;
      follows = follows;
      left = λ s. ⊎_elim (λ (less : new.position < old.position + n). omega arith) (λ same. (let spoiled = is.left same.1 in let none = same.0 in omega arith)) (first.spoiled s);
    }
