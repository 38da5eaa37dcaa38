-- `==` decides whether two names are one.
use Rattle.std.proofs.Common.{◌≡◌, refl}
use Rattle.sb_pages.specs.declared.page.PageName.{PageName}
use Rattle.sb_pages.specs.declared.page.PageName.TheVariants.{Text, Area, Data, Heap, Pool, ServerStack, Save, Stack, Buffer, Record, Scratch, HomeTrampoline, ServerTrampoline}
use Rattle.sb_pages.specs.PageName.{same_name}
use Rattle.sb_pages.specs.Places.{equal_names}

-- what `==` answers
pub equal_same : (first second : PageName) → equal_names first second ≡ same_name first second
unfolding same_name
equal_same (Text process page) (Text process' page') = refl
equal_same (Area process page) (Area process' page') = refl
equal_same (Data process page) (Data process' page') = refl
equal_same (Heap process page) (Heap process' page') = refl
equal_same (Pool process) (Pool process') = refl
equal_same (ServerStack process page) (ServerStack process' page') = refl
equal_same (Save thread) (Save thread') = refl
equal_same (Stack thread page) (Stack thread' page') = refl
equal_same (Buffer thread index page) (Buffer thread' index' page') = refl
equal_same (Record thread view) (Record thread' view') = refl
equal_same (Scratch thread view) (Scratch thread' view') = refl
equal_same HomeTrampoline HomeTrampoline = refl
equal_same ServerTrampoline ServerTrampoline = refl
equal_same _ _ = refl
