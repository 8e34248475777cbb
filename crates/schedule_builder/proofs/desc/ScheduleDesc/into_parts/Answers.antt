use Rattle.schedule_builder.proofs.Askings.{parts_asked}
use Rattle.schedule_builder.proofs.desc.ScheduleDesc.into_parts.Goals as goal

pub returns-clause-conditions : goal.returns-clause-conditions
returns-clause-conditions c =
    parts_asked c.parts_of_systems.result c.args.self c.into_items-sets.result.0.items c.into_items-sets.result.1.items c.in_ok-conditions.conditions.items c.into_items-sets.ensures.sets c.into_items-sets.ensures.systems c.in_ok-conditions.ensures c.parts_of_systems.ensures.conditions
