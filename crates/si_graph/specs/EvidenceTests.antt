-- The tests that decide what an evidence shows: `Shown` in a form that can be computed, this project's choice.
use Rattle.std.specs.Prelude.{ℕ, Bool, true, false, not, ◌&&◌, ◌||◌, if◌then◌else◌, nat_eq, nat_lt, List, [], ◌∷◌, Some, None, Option, is_some, slice_get}
use Rattle.std.specs.List.{list_any, list_all, count_by, find}
use Rattle.std.specs.Option.{option_eq, option_or}
use Rattle.si_model.specs.declared.numbers.TxnId.{TxnId}
use Rattle.si_model.specs.declared.numbers.Stamp.{Stamp}
use Rattle.si_model.specs.declared.numbers.Value.{Value}
use Rattle.si_model.specs.declared.operations.Op.{Op}
use Rattle.si_model.specs.declared.operations.Op.TheVariants as op
use Rattle.si_model.specs.declared.transactions.Status.{Status}
use Rattle.si_model.specs.declared.transactions.Status.TheVariants as status
use Rattle.si_model.specs.declared.transactions.Txn.{Txn}
use Rattle.si_model.specs.declared.parts.Part.{Part}
use Rattle.si_model.specs.declared.sights.Installer.{Installer}
use Rattle.si_model.specs.declared.sights.VersionId.{VersionId}
use Rattle.si_model.specs.declared.sights.VersionId.TheVariants as version
use Rattle.si_model.specs.declared.evidence.Label.{Label}
use Rattle.si_model.specs.declared.evidence.Label.TheVariants as label
use Rattle.si_model.specs.declared.evidence.Edge.{Edge}
use Rattle.si_model.specs.declared.evidence.KeyedEdge.{KeyedEdge}
use Rattle.si_model.specs.declared.evidence.Evidence.{Evidence}
use Rattle.si_model.specs.declared.evidence.Evidence.TheVariants as evidence
use Rattle.si_model.specs.Operations.{key_of, access_of, same_value, same_key}
use Rattle.si_model.specs.Parts.{Present, writes_pair_of, accesses, set_up_value}
use Rattle.si_model.specs.Versions.{written, commit_of, last_write, install_with, is_after}
use Rattle.si_model.specs.Edits.{same_id, with_id}
use Rattle.si_graph.specs.Walks.{is_rw_edge}
use Rattle.si_graph.specs.Unstamped.{edges_of}

-- ---- one key

-- what T does on the key, perhaps nothing
abbrev pub part_on : List ℕ → Txn → Part
part_on x T = record { id = T.id; start = T.start; status = T.status; accesses = accesses x T.ops }

-- the value of T's last write of the key
unfoldable pub last_on : List ℕ → Txn → Option Value
last_on x T = last_write (accesses x T.ops)

-- the last write of the key so far, after one more operation
abbrev pub last_after : List ℕ → Option Value → Op → Option Value
last_after x last p = if same_key (key_of p) x then option_or (written (access_of p)) last else last

-- T as the installer of a version of the key
abbrev pub install_on : List ℕ → Txn → Option Installer
install_on x T = install_with (part_on x T) (commit_of T.status) (last_on x T)

-- whether T's last write of the key is of the value
abbrev pub is_last_on : List ℕ → Value → Txn → Bool
is_last_on x v T = option_eq same_value (last_on x T) (Some v)

-- ---- versions

-- whether a version comes after another and before the commit stamp c
abbrev pub is_between : VersionId → Stamp → Option Installer → Bool
is_between a c None = false
is_between a c (Some m) = is_after a m.commit && nat_lt m.commit.0 c.0

-- whether T installs no version of the key between two
abbrev pub stays_out : List ℕ → VersionId → Stamp → Txn → Bool
stays_out x a c T = not (is_between a c (install_on x T))

-- whether the version of the commit stamp c is next after another
abbrev pub is_next_on : List Txn → List ℕ → VersionId → Stamp → Bool
is_next_on txns x a c = is_after a c && list_all (stays_out x a c) txns

-- whether there is an installer, of the version next after another
abbrev pub follows : List Txn → List ℕ → VersionId → Option Installer → Bool
follows txns x a None = false
follows txns x a (Some n) = is_next_on txns x a n.commit

-- whether there are two installers, of neighbouring versions
abbrev pub are_neighbours : List Txn → List ℕ → Option Installer → Option Installer → Bool
are_neighbours txns x None n = false
are_neighbours txns x (Some m) n = follows txns x (version.Installed m.commit) n

-- ---- edges

-- whether the transaction committed
abbrev pub is_committed : Txn → Bool
is_committed T = is_some (commit_of T.status)

-- whether A and B install neighbouring versions of the key
abbrev pub write_depends_on : List Txn → Txn → Txn → List ℕ → Bool
write_depends_on txns A B x = are_neighbours txns x (install_on x A) (install_on x B)

-- whether A and B install neighbouring versions of the operation's key
abbrev pub write_depends_at : List Txn → Txn → Txn → Op → Bool
write_depends_at txns A B p = write_depends_on txns A B (key_of p)

-- whether the operation is a read that returned A's last write of its key
abbrev pub reads_last_of : Txn → Op → Bool
reads_last_of A (op.Read x None) = false
reads_last_of A (op.Read x (Some v)) = is_last_on x v A
reads_last_of A (op.Write x v) = false

-- whether T installs the value: it committed, and its last write of the key is of it
abbrev pub installs_value : List ℕ → Value → Txn → Bool
installs_value x v T = is_committed T && is_last_on x v T

-- the transaction that installs the value
abbrev pub installer_of : List Txn → List ℕ → Value → Option Txn
installer_of txns x v = find (installs_value x v) txns

-- whether there is a transaction, and the version next after the one that it installs is the other's
abbrev pub precedes : List Txn → List ℕ → Option Txn → Option Installer → Bool
precedes txns x None n = false
precedes txns x (Some T) n = are_neighbours txns x (install_on x T) n

-- whether a transaction installs what was read, and the next version is the other's
abbrev pub one_precedes : List Txn → List ℕ → Option Value → Option Installer → Bool
one_precedes txns x None n = false
one_precedes txns x (Some v) n = precedes txns x (installer_of txns x v) n

-- whether the initial version returns what was read, and the next version is the other's
abbrev pub initial_precedes : Present → List ℕ → Option Value → Option Installer → Bool
initial_precedes P x v n = option_eq same_value v (set_up_value x P.initial) && follows P.txns x version.Initial n

-- whether the operation is a read that returned the version before B's
abbrev pub reads_before : Present → Txn → Op → Bool
reads_before P B (op.Read x v) = initial_precedes P x v (install_on x B) || one_precedes P.txns x v (install_on x B)
reads_before P B (op.Write x v) = false

-- whether there is a commit stamp, less than the start stamp
abbrev pub is_before : Option Stamp → Stamp → Bool
is_before None s = false
is_before (Some c) s = nat_lt c.0 s.0

-- whether there is a commit stamp, not less than the start stamp
abbrev pub is_not_before : Option Stamp → Stamp → Bool
is_not_before None s = false
is_not_before (Some c) s = not (nat_lt c.0 s.0)

-- whether a dependency of that label connects A to B
abbrev pub connects : Present → Label → Txn → Txn → Bool
connects P label.Ww A B = list_any (write_depends_at P.txns A B) A.ops
connects P label.Wr A B = is_committed A && (is_committed B && list_any (reads_last_of A) B.ops)
connects P label.Rw A B = is_committed A && list_any (reads_before P B) A.ops
connects P label.St A B = is_before (commit_of A.status) B.start && is_committed B

-- whether A commits at the start of B or later, and B commits
abbrev pub commits_late : Txn → Txn → Bool
commits_late A B = is_not_before (commit_of A.status) B.start && is_committed B

-- whether there are two transactions that pass the test
abbrev pub both_pass : (Txn → Txn → Bool) → Option Txn → Option Txn → Bool
both_pass test None o = false
both_pass test (Some A) None = false
both_pass test (Some A) (Some B) = test A B

-- whether e is an edge of the graph
abbrev pub is_edge : Present → Edge → Bool
is_edge P e = not (same_id e.from e.to) && both_pass (connects P e.label) (with_id P.txns e.from) (with_id P.txns e.to)

-- whether the label is that of a ww or wr edge
abbrev pub is_dependency : Label → Bool
is_dependency label.Ww = true
is_dependency label.Wr = true
is_dependency label.Rw = false
is_dependency label.St = false

-- ---- walks

-- whether the edges are a walk from a to b
abbrev pub is_walk : TxnId → List Edge → TxnId → Bool
is_walk a [] b = same_id a b
is_walk a (e ∷ es) b = same_id e.from a && is_walk e.to es b

-- whether the edges are a closed walk
abbrev pub is_closed : List Edge → Bool
is_closed [] = false
is_closed (e ∷ es) = is_walk e.to es e.from

-- ---- reads

-- whether the transaction aborted
abbrev pub is_aborted : Status → Bool
is_aborted (status.Committed c) = false
is_aborted status.Aborted = true
is_aborted status.InDoubt = false

-- whether the operation is a read that returned a value which W writes to its key
abbrev pub reads_write_of : Txn → Op → Bool
reads_write_of W (op.Read x None) = false
reads_write_of W (op.Read x (Some v)) = writes_pair_of (op.Write x v) W
reads_write_of W (op.Write x v) = false

-- the same, and the value isn't W's last write of that key
abbrev pub reads_intermediate_of : Txn → Op → Bool
reads_intermediate_of W (op.Read x None) = false
reads_intermediate_of W (op.Read x (Some v)) = writes_pair_of (op.Write x v) W && not (is_last_on x v W)
reads_intermediate_of W (op.Write x v) = false

-- whether there is an operation, and it passes the test
abbrev pub passes_there : (Op → Bool) → Option Op → Bool
passes_there test None = false
passes_there test (Some p) = test p

-- whether T, which committed, read at the place i what W writes, which aborted
abbrev pub is_aborted_read : ℕ → Txn → Txn → Bool
is_aborted_read i T W = is_committed T && (is_aborted W.status && passes_there (reads_write_of W) (slice_get T.ops i))

-- whether T, which committed, read at the place i what W, another one, writes before its last write
abbrev pub is_intermediate_read : ℕ → Txn → Txn → Bool
is_intermediate_read i T W = is_committed T && (not (same_id W.id T.id) && passes_there (reads_intermediate_of W) (slice_get T.ops i))

-- ---- forks and knots

-- whether the operation writes the key
abbrev pub is_write_of : List ℕ → Op → Bool
is_write_of x (op.Read y v) = false
is_write_of x (op.Write y v) = same_key y x

-- whether one of the operations does
abbrev pub write_key : List ℕ → List Op → Bool
write_key x ps = list_any (is_write_of x) ps

-- whether the operations read the key before they write it, and that returned v
abbrev pub read_first : List ℕ → Option Value → List Op → Bool
read_first x v [] = false
read_first x v (op.Read y w ∷ ps) = same_key y x && option_eq same_value w v || read_first x v ps
read_first x v (op.Write y w ∷ ps) = not (same_key y x) && read_first x v ps

-- whether the ones read of the key, before they write it, what the others so read too
abbrev pub read_alike : List ℕ → List Op → List Op → Bool
read_alike x [] qs = false
read_alike x (op.Read y v ∷ ps) qs = same_key y x && read_first x v qs || read_alike x ps qs
read_alike x (op.Write y v ∷ ps) qs = not (same_key y x) && read_alike x ps qs

-- whether B overwrote what A read of the key
abbrev pub is_overwritten : List ℕ → Txn → Txn → Bool
is_overwritten x A B = write_key x B.ops && read_alike x A.ops B.ops

-- whether both committed, and each overwrote what the other read of the key
abbrev pub are_forked : List ℕ → Txn → Txn → Bool
are_forked x A B = is_committed A && (is_committed B && (write_key x A.ops && is_overwritten x A B))

-- whether B read that value of the key, if there is one, before it wrote the key
abbrev pub reads_some_first : List ℕ → Option Value → Txn → Bool
reads_some_first x None B = false
reads_some_first x (Some v) B = read_first x (Some v) B.ops

-- whether an edge of that label is there by what was read and written of the key
abbrev pub is_by_value : Label → List ℕ → Txn → Txn → Bool
is_by_value label.Ww x A B = false
is_by_value label.Wr x A B = reads_some_first x (last_on x A) B
is_by_value label.Rw x A B = is_overwritten x A B
is_by_value label.St x A B = false

-- whether both committed, and the edge is there so
abbrev pub are_joined : KeyedEdge → Txn → Txn → Bool
are_joined e A B = is_committed A && (is_committed B && is_by_value e.edge.label e.key A B)

-- whether the edge joins two so
abbrev pub is_value_edge : Present → KeyedEdge → Bool
is_value_edge P e = not (same_id e.edge.from e.edge.to) && both_pass (are_joined e) (with_id P.txns e.edge.from) (with_id P.txns e.edge.to)

-- whether not both are rw edges
abbrev pub is_no_rw_pair : Edge → Edge → Bool
is_no_rw_pair e f = not (is_rw_edge e && is_rw_edge f)

-- whether no two neighbours are from that edge on, up to `first`
abbrev pub are_spaced : Edge → Edge → List Edge → Bool
are_spaced first e [] = is_no_rw_pair e first
are_spaced first e (f ∷ fs) = is_no_rw_pair e f && are_spaced first f fs

-- whether no two neighbours of the closed walk are
abbrev pub has_no_rw_pair : List Edge → Bool
has_no_rw_pair [] = true
has_no_rw_pair (e ∷ es) = are_spaced e e es

-- whether the two are a fork on the key
abbrev pub is_fork : Present → List ℕ → TxnId → TxnId → Bool
is_fork P x a b = not (same_id a b) && both_pass (are_forked x) (with_id P.txns a) (with_id P.txns b)

-- whether the edges are a knot
abbrev pub is_knot : Present → List KeyedEdge → Bool
is_knot P es = is_closed (edges_of es) && (has_no_rw_pair (edges_of es) && list_all (is_value_edge P) es)

-- ---- evidence

-- whether the edge is of interference
abbrev pub is_interference : Present → Edge → Bool
is_interference P e = is_dependency e.label && (is_edge P e && both_pass commits_late (with_id P.txns e.from) (with_id P.txns e.to))

-- whether the edges are of missed effects
abbrev pub are_missed : Present → List Edge → Bool
are_missed P es = is_closed es && (nat_eq (count_by is_rw_edge es) 1 && list_all (is_edge P) es)

-- whether the evidence holds of what is present
abbrev pub holds : Present → Evidence → Bool
holds P (evidence.AbortedRead t i w) = both_pass (is_aborted_read i) (with_id P.txns t) (with_id P.txns w)
holds P (evidence.IntermediateRead t i w) = both_pass (is_intermediate_read i) (with_id P.txns t) (with_id P.txns w)
holds P (evidence.Interference e) = is_interference P e
holds P (evidence.Missed es) = are_missed P es
holds P (evidence.Fork x a b) = is_fork P x a b
holds P (evidence.Knot es) = is_knot P es
