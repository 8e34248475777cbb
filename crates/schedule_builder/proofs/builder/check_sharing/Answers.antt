use Rattle.std.proofs.Common.{Option, subst}
use Rattle.model.specs.declarations.Declarations.{hierarchy_of, declared_orders}
use Rattle.model.specs.declarations.Edges.{HasNoLoop, HasNoCrossing, AreApart, IsSharing}
use Rattle.system_set.specs.declared.sharing.Sharing.{Sharing}
use Rattle.system_set.specs.Pairs.{pairs_of}
use Rattle.system_set.specs.Ordered.{TellsSharing}
use Rattle.schedule_builder.proofs.Orderings.{sharing_known, told_of}
use Rattle.schedule_builder.proofs.Exits.{told_memory}
use Rattle.schedule_builder.proofs.builder.check_sharing.Goals as goal

pub name_at-requires : goal.name_at-requires
name_at-requires c =
    let d = c.args.desc.now in
    let s : Sharing = c.in-Some.sharing in
    let told = subst (λ (o : Option Sharing). TellsSharing c.args.hierarchy.now (pairs_of c.args.orders.now) o) c.in-Some.is c.in_ok-sharing.ensures in
    (sharing_known d s.first s.second s.system c.requires.whole (told_of (λ h ps. IsSharing h ps s.first s.second s.system) c.args.hierarchy.now (hierarchy_of d) (pairs_of c.args.orders.now) (declared_orders d) c.requires.declared c.requires.orders.ordered told)).0

pub name_at-requires-in-Some : goal.name_at-requires-in-Some
name_at-requires-in-Some c =
    let d = c.args.desc.now in
    let s : Sharing = c.in-Some.sharing in
    let told = subst (λ (o : Option Sharing). TellsSharing c.args.hierarchy.now (pairs_of c.args.orders.now) o) c.in-Some.is c.in_ok-sharing.ensures in
    (sharing_known d s.first s.second s.system c.requires.whole (told_of (λ h ps. IsSharing h ps s.first s.second s.system) c.args.hierarchy.now (hierarchy_of d) (pairs_of c.args.orders.now) (declared_orders d) c.requires.declared c.requires.orders.ordered told)).1

pub name_at-requires-in-Some-2 : goal.name_at-requires-in-Some-2
name_at-requires-in-Some-2 c =
    let d = c.args.desc.now in
    let s : Sharing = c.in-Some.sharing in
    let told = subst (λ (o : Option Sharing). TellsSharing c.args.hierarchy.now (pairs_of c.args.orders.now) o) c.in-Some.is c.in_ok-sharing.ensures in
    (sharing_known d s.first s.second s.system c.requires.whole (told_of (λ h ps. IsSharing h ps s.first s.second s.system) c.args.hierarchy.now (hierarchy_of d) (pairs_of c.args.orders.now) (declared_orders d) c.requires.declared c.requires.orders.ordered told)).2

pub returns-in-None-clause-apart : goal.returns-in-None-clause-apart
returns-in-None-clause-apart c =
    let d = c.args.desc.now in
    let h = c.args.hierarchy.now in
    let ps = pairs_of c.args.orders.now in
    let told = subst (λ (o : Option Sharing). TellsSharing h ps o) c.in-None.is c.in_ok-sharing.ensures in
    record {
      nested = c.requires.nested;
      no_loop = subst (λ qs. HasNoLoop qs) c.requires.orders.ordered c.requires.no_loop;
      no_crossing = told_of HasNoCrossing h (hierarchy_of d) ps (declared_orders d) c.requires.declared c.requires.orders.ordered c.requires.no_crossing;
      apart = told_of AreApart h (hierarchy_of d) ps (declared_orders d) c.requires.declared c.requires.orders.ordered told;
    }

pub returns-in_ok-system-in-Some-clause-refused : goal.returns-in_ok-system-in-Some-clause-refused
returns-in_ok-system-in-Some-clause-refused c =
    let d = c.args.desc.now in
    let h = c.args.hierarchy.now in
    let ps = pairs_of c.args.orders.now in
    let s : Sharing = c.in-Some.sharing in
    let told = subst (λ (o : Option Sharing). TellsSharing h ps o) c.in-Some.is c.in_ok-sharing.ensures in
    let here = told_of (λ k qs. IsSharing k qs s.first s.second s.system) h (hierarchy_of d) ps (declared_orders d) c.requires.declared c.requires.orders.ordered told in (
      c.requires.nested,
      subst (λ qs. HasNoLoop qs) c.requires.orders.ordered c.requires.no_loop,
      told_of HasNoCrossing h (hierarchy_of d) ps (declared_orders d) c.requires.declared c.requires.orders.ordered c.requires.no_crossing,
      (s.first, s.second, s.system, here, c.in_ok-first-in-Some.ensures, c.in_ok-second-in-Some.ensures, c.in_ok-system-in-Some.ensures),
    )

pub returns-in_err-sharing-clause-refused : goal.returns-in_err-sharing-clause-refused
returns-in_err-sharing-clause-refused c = told_memory c.from_residual.result c.args.desc.now c.from_residual.ensures.1

pub returns-in_err-first-in-Some-clause-refused : goal.returns-in_err-first-in-Some-clause-refused
returns-in_err-first-in-Some-clause-refused c = told_memory c.from_residual-in_err-first-in-Some.result c.args.desc.now c.from_residual-in_err-first-in-Some.ensures.1

pub returns-in_err-second-in-Some-clause-refused : goal.returns-in_err-second-in-Some-clause-refused
returns-in_err-second-in-Some-clause-refused c = told_memory c.from_residual-in_err-second-in-Some.result c.args.desc.now c.from_residual-in_err-second-in-Some.ensures.1

pub returns-in_err-system-in-Some-clause-refused : goal.returns-in_err-system-in-Some-clause-refused
returns-in_err-system-in-Some-clause-refused c = told_memory c.from_residual-in_err-system-in-Some.result c.args.desc.now c.from_residual-in_err-system-in-Some.ensures.1
