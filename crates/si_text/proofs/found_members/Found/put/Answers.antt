use Rattle.std.proofs.Common.{Some, sym, subst}
use Rattle.si_text.specs.FoundMembers.{IsWithin, Joins}
use Rattle.si_text.proofs.FoundMembers.{kind_joins, id_joins, start_joins, status_joins, commit_joins, ops_joins, key_joins, value_joins}
use Rattle.si_text.proofs.found_members.Found.put.Goals as goal

pub returns-in-Kind : goal.returns-in-Kind
returns-in-Kind c = subst (λ m. Joins c.args.self.now m (record { kind = Some c.in-Kind.kind; id = c.args.self.now.id; start = c.args.self.now.start; status = c.args.self.now.status; commit = c.args.self.now.commit; ops = c.args.self.now.ops; key = c.args.self.now.key; value = c.args.self.now.value })) (sym c.in-Kind.is) (kind_joins c.args.self.now c.in-Kind.kind)

pub returns-in-Id : goal.returns-in-Id
returns-in-Id c = subst (λ m. Joins c.args.self.now m (record { kind = c.args.self.now.kind; id = Some c.in-Id.id; start = c.args.self.now.start; status = c.args.self.now.status; commit = c.args.self.now.commit; ops = c.args.self.now.ops; key = c.args.self.now.key; value = c.args.self.now.value })) (sym c.in-Id.is) (id_joins c.args.self.now c.in-Id.id)

pub returns-in-Start : goal.returns-in-Start
returns-in-Start c = subst (λ m. Joins c.args.self.now m (record { kind = c.args.self.now.kind; id = c.args.self.now.id; start = Some c.in-Start.start; status = c.args.self.now.status; commit = c.args.self.now.commit; ops = c.args.self.now.ops; key = c.args.self.now.key; value = c.args.self.now.value })) (sym c.in-Start.is) (start_joins c.args.self.now c.in-Start.start)

pub returns-in-Status : goal.returns-in-Status
returns-in-Status c = subst (λ m. Joins c.args.self.now m (record { kind = c.args.self.now.kind; id = c.args.self.now.id; start = c.args.self.now.start; status = Some c.in-Status.status; commit = c.args.self.now.commit; ops = c.args.self.now.ops; key = c.args.self.now.key; value = c.args.self.now.value })) (sym c.in-Status.is) (status_joins c.args.self.now c.in-Status.status)

pub returns-in-Commit : goal.returns-in-Commit
returns-in-Commit c = subst (λ m. Joins c.args.self.now m (record { kind = c.args.self.now.kind; id = c.args.self.now.id; start = c.args.self.now.start; status = c.args.self.now.status; commit = Some c.in-Commit.commit; ops = c.args.self.now.ops; key = c.args.self.now.key; value = c.args.self.now.value })) (sym c.in-Commit.is) (commit_joins c.args.self.now c.in-Commit.commit)

pub returns-in-Ops : goal.returns-in-Ops
returns-in-Ops c = subst (λ m. Joins c.args.self.now m (record { kind = c.args.self.now.kind; id = c.args.self.now.id; start = c.args.self.now.start; status = c.args.self.now.status; commit = c.args.self.now.commit; ops = Some c.in-Ops.ops; key = c.args.self.now.key; value = c.args.self.now.value })) (sym c.in-Ops.is) (ops_joins c.args.self.now c.in-Ops.ops (subst IsWithin c.in-Ops.is c.requires))

pub returns-in-Key : goal.returns-in-Key
returns-in-Key c = subst (λ m. Joins c.args.self.now m (record { kind = c.args.self.now.kind; id = c.args.self.now.id; start = c.args.self.now.start; status = c.args.self.now.status; commit = c.args.self.now.commit; ops = c.args.self.now.ops; key = Some c.in-Key.key; value = c.args.self.now.value })) (sym c.in-Key.is) (key_joins c.args.self.now c.in-Key.key (subst IsWithin c.in-Key.is c.requires))

pub returns-in-Value : goal.returns-in-Value
returns-in-Value c = subst (λ m. Joins c.args.self.now m (record { kind = c.args.self.now.kind; id = c.args.self.now.id; start = c.args.self.now.start; status = c.args.self.now.status; commit = c.args.self.now.commit; ops = c.args.self.now.ops; key = c.args.self.now.key; value = Some c.in-Value.value })) (sym c.in-Value.is) (value_joins c.args.self.now c.in-Value.value)
