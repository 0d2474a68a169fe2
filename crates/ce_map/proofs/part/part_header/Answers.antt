use Rattle.std.proofs.Common.{refl}
use Rattle.ce_map.specs.HeadersInside.{header_in}
use Rattle.ce_map.proofs.PartLaws.{part_at, part_lacks, part_within}
use Rattle.ce_map.proofs.part.part_header.Goals as goal

pub returns-in_default-clause-none : goal.returns-in_default-clause-none
returns-in_default-clause-none c =
    part_lacks c.args.bytes.now c.args.from c.rest_of.result.now c.rest_of.ensures c.in_default.ensures

pub overflow_sub-result : goal.overflow_sub-result
overflow_sub-result c =
    part_within c.args.bytes.now c.args.from c.rest_of.result.now (header_in c.in-Some.header) c.in-Some.rest.now
    c.requires c.rest_of.ensures c.in-Some.ensures

pub returns-clause-found : goal.returns-clause-found
returns-clause-found c =
    part_at c.args.bytes.now c.args.from c.rest_of.result.now (header_in c.in-Some.header) c.in-Some.rest.now
    c.requires c.rest_of.ensures c.in-Some.ensures c.in-Some.header.order c.in-Some.header.scale refl refl
