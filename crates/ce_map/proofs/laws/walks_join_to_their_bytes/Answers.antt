use Rattle.ce_map.proofs.WalkJoins.{slice_taken, walk_joined}
use Rattle.ce_map.proofs.laws.walks_join_to_their_bytes.Goals as goal

pub returns-clause-slice : goal.returns-clause-slice
returns-clause-slice c = slice_taken

pub returns-clause-joined : goal.returns-clause-joined
returns-clause-joined c = walk_joined
