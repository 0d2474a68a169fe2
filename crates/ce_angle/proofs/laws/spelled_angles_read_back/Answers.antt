use Rattle.ce_angle.proofs.ReadBack.{reads_back}
use Rattle.ce_angle.proofs.laws.spelled_angles_read_back.Goals as goal

pub returns : goal.returns
returns c = reads_back
