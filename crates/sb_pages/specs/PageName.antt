-- Names of pages: when two are one, and how a page of each kind may be accessed.
use Rattle.std.specs.Prelude.{◌==◌, ◌&&◌, Bool, true, false, if◌then◌else◌}
use Rattle.sb_memory.specs.declared.address.Access.{Access}
use Rattle.sb_memory.specs.declared.address.Access.TheVariants as access
use Rattle.sb_pages.specs.declared.page.PageName.{PageName}
use Rattle.sb_pages.specs.declared.page.PageName.TheVariants.{Text, Area, Data, Heap, Pool, ServerStack, Save, Stack, Buffer, Record, Scratch, HomeTrampoline, ServerTrampoline}
use Rattle.sb_pages.specs.declared.page.Mode.{Mode}
use Rattle.sb_pages.specs.declared.page.Mode.TheVariants as mode

-- whether two names are one
unfoldable pub same_name : PageName → PageName → Bool
same_name (Text process page) (Text process' page') = (process == process') && (page == page')
same_name (Area process page) (Area process' page') = (process == process') && (page == page')
same_name (Data process page) (Data process' page') = (process == process') && (page == page')
same_name (Heap process page) (Heap process' page') = (process == process') && (page == page')
same_name (Pool process) (Pool process') = process == process'
same_name (ServerStack process page) (ServerStack process' page') = (process == process') && (page == page')
same_name (Save thread) (Save thread') = thread == thread'
same_name (Stack thread page) (Stack thread' page') = (thread == thread') && (page == page')
same_name (Buffer thread index page) (Buffer thread' index' page') = (thread == thread') && ((index == index') && (page == page'))
same_name (Record thread view) (Record thread' view') = (thread == thread') && (view == view')
same_name (Scratch thread view) (Scratch thread' view') = (thread == thread') && (view == view')
same_name HomeTrampoline HomeTrampoline = true
same_name ServerTrampoline ServerTrampoline = true
same_name _ _ = false

-- the mode of a page by its name; a heap page that is executable is code
unfoldable pub mode_of : PageName → Bool → Mode
mode_of (Text process page) executable = mode.Fetch
mode_of (Area process page) executable = mode.Fetch
mode_of (Heap process page) executable = if executable then mode.Fetch else mode.ReadWrite
mode_of (Record thread view) executable = mode.Read
mode_of HomeTrampoline executable = mode.Fetch
mode_of ServerTrampoline executable = mode.Fetch
mode_of (Data process page) executable = mode.ReadWrite
mode_of (Pool process) executable = mode.ReadWrite
mode_of (ServerStack process page) executable = mode.ReadWrite
mode_of (Save thread) executable = mode.ReadWrite
mode_of (Stack thread page) executable = mode.ReadWrite
mode_of (Buffer thread index page) executable = mode.ReadWrite
mode_of (Scratch thread view) executable = mode.ReadWrite

abbrev pub permits : Mode → Access → Bool
permits mode.Fetch access.Fetch = true
permits mode.Fetch access.Read = false
permits mode.Fetch access.Write = false
permits mode.Read access.Fetch = false
permits mode.Read access.Read = true
permits mode.Read access.Write = false
permits mode.ReadWrite access.Fetch = false
permits mode.ReadWrite access.Read = true
permits mode.ReadWrite access.Write = true
