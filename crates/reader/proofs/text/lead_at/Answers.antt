-- `lead_at` meets its contract.
use Rattle.reader.proofs.Leads.{lead_head}
use Rattle.reader.proofs.text.lead_at.Goals as goal

pub returns : goal.returns
returns c = lead_head c.head_at.ensures
