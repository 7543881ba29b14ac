use mathlib.Core.Path.{ap}
use Rattle.disp_structs.specs.Listed.{listed}
use Rattle.text.specs.Ascii.{ascii}
use Rattle.text.proofs.TextLaws.{put_is}
use Rattle.path_page.specs.Page.{kind_field}
use Rattle.path_page.proofs.put_kind.Goals as goal

pub returns-in-Arrive : goal.returns-in-Arrive
unfolding ascii listed
returns-in-Arrive c = put_is (ap kind_field c.in-Arrive.is) c.put_bytes.ensures

pub returns-in-Clear : goal.returns-in-Clear
unfolding ascii listed
returns-in-Clear c = put_is (ap kind_field c.in-Clear.is) c.put_bytes-in-Clear.ensures

pub returns-in-Fake : goal.returns-in-Fake
unfolding ascii listed
returns-in-Fake c = put_is (ap kind_field c.in-Fake.is) c.put_bytes-in-Fake.ensures
