-- Threads may share a checker: what stands behind its locks may go to any of them. And a closure may go to a thread where all that it
-- captures may.
use denote.RattleType.{RattleType}
use denote.Param.Send.{IsSend, IsSync, recorded_send, recorded_sync, sendable, struct_send, struct_sync, view_send}
use denote.Struct.Declared.{shape}
use denote.Struct.Tuple.{TupleAt, field_at, type_at}
use Rattle.std.proofs.Common.{List, [], ◌∷◌, ℕ}
use Rattle.std.proofs.Crossing.{crosses}
use Rattle.std.proofs.alloc.Global.TheSendSync as global
use Rattle.std.proofs.marker.PhantomData.TheSendSync as phantom
use Rattle.si_words.proofs.seats.ShardSeat.TheSendSync as seat
use Rattle.si_words.proofs.words.Words.TheSendSync as words
use Rattle.si_shard.proofs.journal_shards.JournalShard.TheSendSync as shard
use Rattle.si_checker.specs.declared.names.Name.{Ghosts}
use Rattle.si_checker.specs.contracts.locked_shards.LockedShard as LockedShard
use Rattle.si_checker.specs.contracts.locked_shards.LockedShard.TheInside as inside
use Rattle.si_checker.specs.contracts.checkers.Checker as Checker
use Rattle.si_checker.specs.contracts.locked_books.LockedBook as LockedBook
use Rattle.si_checker.proofs.locked_books.LockedBook.TheSendSync as locked_book

module _ (N : RattleType) (G : Ghosts N.Denot) where
  locked_shard_send : IsSend (LockedShard.the_row N G)
  locked_shard_send =
      view_send (inside.the_row N G) _ _ _ _
      (recorded_send (inside.the_field N G).row _ _ (inside.the_type N G).to_one (struct_send (shape (inside.the_type N G)) (shard.the_field_send, (seat.the_send, (phantom.the_field_send N, tt)))))

  locked_book_send : IsSend (LockedBook.the_row N G)
  locked_book_send = search (locked_book.the_send)

  pub checker_sync : IsSync (Checker.the_row N G)
  checker_sync = recorded_sync (Checker.the_field N G).row _ _ (Checker.the_type N G).to_one (struct_sync (shape (Checker.the_type N G)) (
    global.the_field_sync,
    (
      words.the_sync,
      (search (locked_book_send, crosses, sendable) depth 20, (search (locked_shard_send, crosses, sendable) depth 20, (search (crosses, sendable) depth 20, tt))),
    ),
  ))

-- ---- what a closure captures

pub two_send : (name : List ℕ) (A B : RattleType) → IsSend A → IsSend B → IsSend (TupleAt name (A ∷ B ∷ []))
two_send name A B a b =
    let Ts : List RattleType = A ∷ B ∷ [] in
    recorded_send (field_at name Ts).row _ _ (type_at name Ts).to_one (struct_send (shape (type_at name Ts)) (a, (b, tt)))

pub three_send : (name : List ℕ) (A B C : RattleType) → IsSend A → IsSend B → IsSend C → IsSend (TupleAt name (A ∷ B ∷ C ∷ []))
three_send name A B C a b c =
    let Ts : List RattleType = A ∷ B ∷ C ∷ [] in
    recorded_send (field_at name Ts).row _ _ (type_at name Ts).to_one (struct_send (shape (type_at name Ts)) (a, (b, (c, tt))))

pub four_send : (name : List ℕ) (A B C D : RattleType) → IsSend A → IsSend B → IsSend C → IsSend D → IsSend (TupleAt name (A ∷ B ∷ C ∷ D ∷ []))
four_send name A B C D a b c d =
    let Ts : List RattleType = A ∷ B ∷ C ∷ D ∷ [] in
    recorded_send (field_at name Ts).row _ _ (type_at name Ts).to_one (struct_send (shape (type_at name Ts)) (a, (b, (c, (d, tt)))))

pub three_sync : (name : List ℕ) (A B C : RattleType) → IsSync A → IsSync B → IsSync C → IsSync (TupleAt name (A ∷ B ∷ C ∷ []))
three_sync name A B C a b c =
    let Ts : List RattleType = A ∷ B ∷ C ∷ [] in
    recorded_sync (field_at name Ts).row _ _ (type_at name Ts).to_one (struct_sync (shape (type_at name Ts)) (a, (b, (c, tt))))
