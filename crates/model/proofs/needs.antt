-- What an update needs of pages and slots: the free pages and the slots counted; 12 and 13 exactly when.
pub mod Sizes
pub mod FreePages
pub mod OneLevel
pub mod OpenSlot
pub mod Lacking
