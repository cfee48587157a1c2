mod NumberedFeatures
mod OneEdit
